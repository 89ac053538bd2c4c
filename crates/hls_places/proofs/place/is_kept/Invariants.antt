-- Before each round, the place is kept if and only if its remaining spots are at or above their floors.
use Rattle.std.proofs.Common.{◌≡◌, drop}
use Rattle.hls_places_laws.specs.Programmes.{is_kept_above}
use Rattle.hls_places.proofs.place.is_kept.Given as goal

abbrev pub invariant-loop-r : goal.invariant-loop-r
invariant-loop-r l = is_kept_above (drop l.r l.floors) (drop l.r l.spots) ≡ is_kept_above l.floors l.spots
