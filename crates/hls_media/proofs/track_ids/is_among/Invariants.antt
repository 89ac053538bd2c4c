-- Before each round, the number is among all numbers if and only if it is among the remaining ones.
use Rattle.std.proofs.Common.{◌≡◌, ℕ, ◌==◌, drop}
use Rattle.std.specs.List.{list_any}
use Rattle.hls_media.proofs.track_ids.is_among.Given as goal

abbrev pub invariant-loop-number : goal.invariant-loop-number
invariant-loop-number l = list_any (λ (m : ℕ). m == l.id) l.numbers ≡ list_any (λ (m : ℕ). m == l.id) (drop l.number-index l.numbers)
