-- A unit that is written again with another start ends when it did, and keeps its other facts but for its length in bytes.
use Rattle.hls_mend_laws.proofs.RetimedLaws.{retimed-keep-facts}
use Rattle.hls_mend_laws.proofs.laws.retimed_keep_facts.Goals as goal

pub returns : goal.returns
returns c = retimed-keep-facts
