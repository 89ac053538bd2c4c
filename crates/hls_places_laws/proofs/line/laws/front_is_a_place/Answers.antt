-- The place where the live line begins is one of the places that were added.
use Rattle.hls_places_laws.proofs.LineLemmas.Ends.{front-stands}
use Rattle.hls_places_laws.proofs.line.laws.front_is_a_place.Goals as goal

pub returns : goal.returns
returns c = front-stands
