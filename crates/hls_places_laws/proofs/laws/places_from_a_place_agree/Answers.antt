-- Renditions that are recorded from one of their common places, other than the closing one, have that place and all later ones,
-- numbered from it.
use Rattle.hls_places_laws.proofs.Since.{places-since}
use Rattle.hls_places_laws.proofs.laws.places_from_a_place_agree.Goals as goal

pub returns : goal.returns
returns c = places-since
