-- A part is the first part of a text if and only if the text begins with its bytes and the grammar accepts them.
use Rattle.hls_boxes.proofs.TextLaws.{firsts}
use Rattle.hls_boxes.proofs.laws.first_part_matches_grammar.Goals as goal

pub returns : goal.returns
returns c = firsts
