-- Before each round, the copies so far, and those of the kept places in the remaining walk up to the count, are the copies that are wanted.
use Rattle.std.proofs.Common.{◌≡◌, ◌-◌, ◌++◌, length, take}
use Rattle.hls_places_laws.specs.Order.{spots_of}
use Rattle.hls_places_laws.specs.Programmes.{filter_kept}
use Rattle.hls_catchup.specs.KeptPlaces.{kept_places_from}
use Rattle.hls_catchup.proofs.kept_places.KeptPlaces.push_spots.Given as goal

abbrev pub invariant-loop-place : goal.invariant-loop-place
invariant-loop-place l = record {
  copied : l.spots.items ++ spots_of (take (l.count - length l.spots.items) (filter_kept l.self.floors l.walk)) ≡ spots_of (take l.count (kept_places_from l.self l.from));
}

abbrev pub decreases-loop-place : goal.decreases-loop-place
decreases-loop-place l = length l.walk
