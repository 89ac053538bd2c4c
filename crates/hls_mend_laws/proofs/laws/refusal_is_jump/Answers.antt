-- A rendition whose unit was refused as ahead allows the others to jump.
use Rattle.hls_mend_laws.proofs.JumpLaws.{refusal-is-jump}
use Rattle.hls_mend_laws.proofs.laws.refusal_is_jump.Goals as goal

pub returns : goal.returns
returns c = refusal-is-jump
