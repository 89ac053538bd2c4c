-- A text has no part and leaves a remainder if and only if it consists of boxes that end no part, followed by nothing, an incomplete box
-- or the first faulty header.
use Rattle.hls_boxes.proofs.UnendedLaws.{lefts}
use Rattle.hls_boxes.proofs.laws.rest_matches_grammar.Goals as goal

pub returns : goal.returns
returns c = lefts
