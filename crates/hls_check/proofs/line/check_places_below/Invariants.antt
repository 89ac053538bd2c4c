-- Before each round, the places are the numbers examined so far, and each is less than the count.
use Rattle.std.proofs.Common.{◌≡◌, ◌<◌, take, All}
use Rattle.hls_check.proofs.line.check_places_below.Given as goal

abbrev pub invariant-loop-number : goal.invariant-loop-number
invariant-loop-number l =
    (l.places.items ≡ take l.number-index l.numbers) × All (λ p. p < l.count) (take l.number-index l.numbers)
