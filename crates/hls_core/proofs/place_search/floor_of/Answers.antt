-- A number past the last rendition has floor 0.
use Rattle.hls_core.proofs.KeptPlaces.{floor-none}
use Rattle.hls_core.proofs.place_search.floor_of.Goals as goal

pub returns-in-None : goal.returns-in-None
returns-in-None c = floor-none c.args.snapshot.now c.args.rendition (rw c.in-None.is at c.rendition.ensures.none)
