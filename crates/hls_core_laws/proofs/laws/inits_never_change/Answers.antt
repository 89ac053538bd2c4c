-- A rendition's init section is the same in every state that follows one that has it.
use Rattle.hls_core_laws.proofs.Theorems.{inits_stay}
use Rattle.hls_core_laws.proofs.laws.inits_never_change.Goals as goal

pub returns : goal.returns
returns c = inits_stay
