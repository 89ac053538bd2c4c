-- A text is exactly one unit by the cut if and only if it consists of loose boxes, a `moof`, loose boxes and an `mdat`, within the limit.
use Rattle.hls_boxes.proofs.TextLaws.{units}
use Rattle.hls_boxes.proofs.laws.units_match_grammar.Goals as goal

pub returns : goal.returns
returns c = units
