-- The empty text has no part and leaves nothing.
use Rattle.hls_boxes.proofs.TextLaws.{empty}
use Rattle.hls_boxes.proofs.laws.empty_input_leaves_nothing.Goals as goal

pub returns : goal.returns
returns c = empty
