-- Before each round, the spots so far and the end spots of the remaining renditions are the end spots of all renditions.
use Rattle.std.proofs.Common.{◌≡◌, ◌++◌, drop, map}
use Rattle.hls_places_laws.specs.Places.{source_end_spot}
use Rattle.hls_places.proofs.closing_place.end_spots.Given as goal

abbrev pub invariant-loop-r : goal.invariant-loop-r
invariant-loop-r l = l.spots.items ++ map source_end_spot (drop l.r l.renditions) ≡ map source_end_spot l.renditions
