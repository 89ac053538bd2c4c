-- Before each round, no place so far is at or after the time: the first one that is is among the remaining ones.
use Rattle.std.proofs.Common.{◌≡◌, ◌+◌, map, drop}
use Rattle.hls_places_laws.specs.Firsts.{first_from}
use Rattle.hls_places.proofs.standalone.first_from.Given as goal

abbrev pub invariant-loop-i : goal.invariant-loop-i
invariant-loop-i l =
    l.i + first_from l.time (map (λ p. p.now) (drop l.i l.places)) ≡ first_from l.time (map (λ p. p.now) l.places)
