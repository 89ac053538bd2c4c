-- Every text is the bytes of its parts and a rest. The rest, cut on its own, has no part and leaves what the text leaves.
use Rattle.hls_boxes.proofs.TextLaws.{lost}
use Rattle.hls_boxes.proofs.laws.parts_and_rest_are_input.Goals as goal

pub returns : goal.returns
returns c = lost
