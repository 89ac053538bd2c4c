-- The last kept place of a state by a time.
use Rattle.std.specs.Prelude.{◌≡◌, ℕ, ◌+◌, ◌<◌, ◌≤◌, true, List, length, Some, slice_get}
use Rattle.hls_places_laws.specs.declared.place.Place.{Place}
use Rattle.hls_places_laws.specs.Order.{time_of}
use Rattle.hls_places_laws.specs.Programmes.{is_kept}
use Rattle.hls_core_laws.specs.State.{State}
use Rattle.hls_core_laws.specs.Places.{places, floors}

-- exactly the first `count` places are at or before a time
pub record IsCountBy (ps : List Place) (time count : ℕ) : Type 0 where
  pub few : count ≤ length ps
  pub early : (k : ℕ) (p : Place) → k < count → slice_get ps k ≡ Some p → time_of p ≤ time
  pub late : (k : ℕ) (p : Place) → count ≤ k → slice_get ps k ≡ Some p → time < time_of p

-- place n is the last one at or before a time, and is kept
pub record IsLastKeptBy (s : State) (time n : ℕ) : Type 0 where
  pub place : Place
  pub there : slice_get (places s) n ≡ Some place
  pub kept : is_kept (floors s) place ≡ true
  pub by : IsCountBy (places s) time (n + 1)

-- no kept place is at or before a time
abbrev pub NoKeptBy : State → ℕ → Type 0
NoKeptBy s time = (k : ℕ) (p : Place) → slice_get (places s) k ≡ Some p → is_kept (floors s) p ≡ true → time < time_of p
