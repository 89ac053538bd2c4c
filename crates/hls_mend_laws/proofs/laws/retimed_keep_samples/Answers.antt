-- A unit that is written again with another start keeps its samples and their bytes, but for the duration of the first.
use Rattle.hls_mend_laws.proofs.RetimedLaws.{retimed-keep-samples}
use Rattle.hls_mend_laws.proofs.laws.retimed_keep_samples.Goals as goal

pub returns : goal.returns
returns c = retimed-keep-samples
