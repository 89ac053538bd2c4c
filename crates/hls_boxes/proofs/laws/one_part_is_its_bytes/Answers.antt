-- If a text is cut into one part and nothing is left, the part has the bytes of the text, and what follows it is cut separately.
use Rattle.hls_boxes.proofs.TextLaws.{one}
use Rattle.hls_boxes.proofs.laws.one_part_is_its_bytes.Goals as goal

pub returns : goal.returns
returns c = one
