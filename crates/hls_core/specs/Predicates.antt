-- For the proofs of this crate; no public clause cites it. The predicate of a search among places, and how far it holds.
use Rattle.std.specs.Prelude.{◌≡◌, ℕ, ◌<◌, ◌≤◌, Bool, true, false, not, nat_le, length, Some, slice_get}
use Rattle.hls_places_laws.specs.declared.place.Place.{Place}
use Rattle.hls_places_laws.specs.Order.{time_of}
use Rattle.hls_places_laws.specs.Programmes.{is_kept}
use Rattle.hls_core_laws.specs.State.{State}
use Rattle.hls_core_laws.specs.Places.{places, floors}
use Rattle.hls_core.specs.declared.place_search.PlacePredicate.{PlacePredicate}
use Rattle.hls_core.specs.declared.place_search.PlacePredicate.TheVariants.{AtOrBefore, Trimmed}

-- whether a place of a state satisfies the predicate
abbrev pub satisfies : State → PlacePredicate → Place → Bool
satisfies s (AtOrBefore time) p = nat_le (time_of p) time
satisfies s Trimmed p = not (is_kept (floors s) p)

-- each place below a number satisfies the predicate
abbrev pub SatisfyBelow : State → PlacePredicate → ℕ → Type 0
SatisfyBelow s predicate n = (k : ℕ) (p : Place) → k < n → slice_get (places s) k ≡ Some p → satisfies s predicate p ≡ true

-- no place from a number on satisfies the predicate
abbrev pub NoneSatisfiesFrom : State → PlacePredicate → ℕ → Type 0
NoneSatisfiesFrom s predicate n = (k : ℕ) (p : Place) → n ≤ k → slice_get (places s) k ≡ Some p → satisfies s predicate p ≡ false

-- exactly the first `count` places satisfy the predicate
pub record IsFront (s : State) (predicate : PlacePredicate) (count : ℕ) : Type 0 where
  pub few : count ≤ length (places s)
  pub met : SatisfyBelow s predicate count
  pub unmet : NoneSatisfiesFrom s predicate count
