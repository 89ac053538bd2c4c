-- The text of an instant that can be written is one of the grammar, for that instant rounded down to milliseconds.
use Rattle.hls_instants.proofs.laws.instant_text_matches_grammar.Goals as goal
use Rattle.hls_instants.proofs.Dates.{is_moment_text}

pub returns : goal.returns
returns c = is_moment_text
