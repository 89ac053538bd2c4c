-- A unit that starts at the end of its rendition is recorded as it was sent, and nothing else is.
use Rattle.hls_mend.proofs.KeptLaws.{contiguous-is-kept}
use Rattle.hls_mend.proofs.laws.contiguous_is_kept.Goals as goal

pub returns : goal.returns
returns c = contiguous-is-kept
