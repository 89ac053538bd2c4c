-- A text is read as an instant if and only if the grammar says that it is the text of that instant.
use Rattle.hls_instants.proofs.laws.instant_matches_grammar.Goals as goal
use Rattle.hls_instants.proofs.Moments.{named}

pub returns : goal.returns
returns c = named
