-- The line of the places from one of its cuts, counted from there, has the segments from that cut.
-- Only the first segment's mark may differ: it has none.
use Rattle.hls_places_laws.proofs.LineLemmas.Since.{line-since}
use Rattle.hls_places_laws.proofs.line.laws.line_from_cut_agrees.Goals as goal

pub returns : goal.returns
returns c = line-since
