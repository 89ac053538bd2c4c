-- Facts under an init section that was seen in a state are valid in each state that follows it.
use Rattle.hls_core_laws.proofs.Theorems.{seen_suffices}
use Rattle.hls_core_laws.proofs.laws.seen_init_suffices.Goals as goal

pub returns : goal.returns
returns c = seen_suffices
