-- The live line has no more segments than places were added.
use Rattle.hls_places_laws.proofs.LineLemmas.Ends.{segments-few}
use Rattle.hls_places_laws.proofs.line.laws.segments_are_no_more_than_places.Goals as goal

pub returns : goal.returns
returns c = segments-few
