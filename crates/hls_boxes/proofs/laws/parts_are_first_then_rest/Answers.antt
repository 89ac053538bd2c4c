-- A text with a first part has that part and then what the cut of the rest after its bytes gives, whatever follows.
use Rattle.hls_boxes.proofs.TextLaws.{in_order}
use Rattle.hls_boxes.proofs.laws.parts_are_first_then_rest.Goals as goal

pub returns : goal.returns
returns c = in_order
