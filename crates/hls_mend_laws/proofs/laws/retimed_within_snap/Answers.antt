-- A unit that is retimed moves by at most the limit for that.
use Rattle.hls_mend_laws.proofs.TreatmentLaws.{retimed-within-snap}
use Rattle.hls_mend_laws.proofs.laws.retimed_within_snap.Goals as goal

pub returns : goal.returns
returns c = retimed-within-snap
