-- If an origin was begun at a cut of another's line, with the units from the cut, its segment n is segment n after the cut,
-- however much either has received. Only the first segment's mark may differ.
use Rattle.hls_places_laws.proofs.LineLemmas.Begun.{segments-since}
use Rattle.hls_places_laws.proofs.line.laws.segments_from_cut_agree.Goals as goal

pub returns : goal.returns
returns c = segments-since
