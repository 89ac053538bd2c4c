-- Before each round, no place so far is after the time: the first one after it is among the remaining ones.
use Rattle.std.proofs.Common.{◌≡◌, ◌+◌, map, drop}
use Rattle.hls_places_laws.specs.Firsts.{first_after}
use Rattle.hls_places.proofs.standalone.first_after.Given as goal

abbrev pub invariant-loop-i : goal.invariant-loop-i
invariant-loop-i l =
    l.i + first_after l.time (map (λ p. p.now) (drop l.i l.places)) ≡ first_after l.time (map (λ p. p.now) l.places)
