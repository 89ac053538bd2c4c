-- If in each rendition one channel's list of units is a prefix of the other's,
-- then one channel's list of common places is a prefix of the other's.
use Rattle.hls_places_laws.proofs.Undecided.{places-alike}
use Rattle.hls_places_laws.proofs.laws.places_of_prefixes_agree.Goals as goal

pub returns : goal.returns
returns c = places-alike
