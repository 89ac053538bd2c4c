-- The kept places are all places but the first ones that have a trimmed unit.
use Rattle.std.proofs.Common.{arith}
use Rattle.hls_core.proofs.KeptPlaces.{kept-counted}
use Rattle.hls_core.proofs.place_search.kept_place_count.Goals as goal

pub returns : goal.returns
returns c = omega (arith, c.place_count.ensures.count, kept-counted c.args.snapshot.now c.count_matching_front.result c.count_matching_front.ensures.front)
