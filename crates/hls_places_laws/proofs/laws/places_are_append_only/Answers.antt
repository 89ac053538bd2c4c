-- As renditions grow, their common places are only appended to.
use Rattle.hls_places_laws.proofs.Undecided.{places-appended}
use Rattle.hls_places_laws.proofs.laws.places_are_append_only.Goals as goal

pub returns : goal.returns
returns c = places-appended
