-- If each unit of a stream after the first starts at the end of the one before it, every unit is recorded as it was sent,
-- and nothing else is.
use Rattle.hls_mend_laws.proofs.TreatmentLaws.{faultless-is-kept}
use Rattle.hls_mend_laws.proofs.laws.faultless_is_kept.Goals as goal

pub returns : goal.returns
returns c = faultless-is-kept
