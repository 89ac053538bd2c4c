-- Of two common places the later one has in each rendition at least the unit number and the gap count of the earlier.
use Rattle.hls_places_laws.proofs.Since.{places-in_row}
use Rattle.hls_places_laws.proofs.laws.places_never_go_back.Goals as goal

pub returns : goal.returns
returns c = places-in_row
