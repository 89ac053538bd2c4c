-- The first sample of a unit that is retimed lasts for some time, and its duration fits 32 bits.
use Rattle.hls_mend_laws.proofs.TreatmentLaws.{retimed-durations-fit}
use Rattle.hls_mend_laws.proofs.laws.retimed_durations_fit.Goals as goal

pub returns : goal.returns
returns c = retimed-durations-fit
