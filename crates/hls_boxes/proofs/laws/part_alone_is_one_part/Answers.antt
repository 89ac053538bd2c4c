-- The bytes of each part of a text, cut on their own, are that one part and leave nothing.
use Rattle.hls_boxes.proofs.TextLaws.{alone}
use Rattle.hls_boxes.proofs.laws.part_alone_is_one_part.Goals as goal

pub returns : goal.returns
returns c = alone
