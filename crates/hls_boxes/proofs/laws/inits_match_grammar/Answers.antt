-- A text is exactly one init section by the cut if and only if it consists of loose boxes and then a `moov`, within the limit.
use Rattle.hls_boxes.proofs.TextLaws.{inits}
use Rattle.hls_boxes.proofs.laws.inits_match_grammar.Goals as goal

pub returns : goal.returns
returns c = inits
