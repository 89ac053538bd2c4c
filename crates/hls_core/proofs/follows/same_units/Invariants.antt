-- Before each round, the units so far that both recordings keep are the same in both.
use Rattle.std.proofs.Common.{◌≡◌, ℕ, ◌-◌, ◌<◌, ◌≤◌, List, Some}
use Rattle.std.specs.Prelude.{slice_get}
use Rattle.hls_core.proofs.follows.same_units.Given as goal

abbrev pub invariant-loop-n : goal.invariant-loop-n
invariant-loop-n l =
    (k : ℕ) (x y : List ℕ) → k < l.n → l.a.floor ≤ k → l.b.floor ≤ k → slice_get l.a.units (k - l.a.floor) ≡ Some x → slice_get l.b.units (k - l.b.floor) ≡ Some y → x ≡ y
