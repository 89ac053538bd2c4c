-- Before each round, the spots so far and those of the remaining places are the spots of all places.
use Rattle.std.proofs.Common.{◌≡◌, ◌++◌, drop, map}
use Rattle.hls_places_laws.specs.Order.{spots_of}
use Rattle.hls_places.proofs.standalone.spots_of.Given as goal

abbrev pub invariant-loop-place : goal.invariant-loop-place
invariant-loop-place l =
    l.spots.items ++ spots_of (map (λ p. p.now) (drop l.place-index l.places)) ≡ spots_of (map (λ p. p.now) l.places)
