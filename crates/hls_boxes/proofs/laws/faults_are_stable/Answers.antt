-- A text that is refused with a fault is cut in the same way whatever follows it: the fault is permanent, and no part is found after it.
use Rattle.hls_boxes.proofs.TextLaws.{stay}
use Rattle.hls_boxes.proofs.laws.faults_are_stable.Goals as goal

pub returns : goal.returns
returns c = stay
