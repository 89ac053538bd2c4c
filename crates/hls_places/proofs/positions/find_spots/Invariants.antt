-- Before each round, the spots so far and those of the remaining renditions are the spots for the time; there are none if one of these
-- has none.
use Rattle.std.proofs.Common.{◌≡◌, ◌++◌, drop}
use Rattle.std.specs.Prelude.{option_map}
use Rattle.hls_places_laws.specs.Places.{spots}
use Rattle.hls_places.proofs.positions.find_spots.Given as goal

abbrev pub invariant-loop-r : goal.invariant-loop-r
invariant-loop-r l =
    option_map (λ rest. l.spots.items ++ rest) (spots (drop l.r l.renditions) l.time) ≡ spots l.renditions l.time
