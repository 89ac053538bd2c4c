-- Which places are old enough to be trimmed. For the proofs of this crate; no public clause cites it.
use Rattle.std.specs.Prelude.{◌≡◌, ℕ, ◌<◌, ◌≤◌, true, length, Some, ◌+◌, ◌-◌, slice_get, slice_index}
use Rattle.hls_check_tables.specs.Tables.{spot_in}
use Rattle.hls_places_laws.specs.declared.place.Place.{Place}
use Rattle.hls_places_laws.specs.Order.{time_of}
use Rattle.hls_places_laws.specs.Line.Live.{front_of}
use Rattle.hls_places_laws.specs.Line.Upkeep.{is_old, IsTrimPlaceOf}
use Rattle.hls_core_laws.specs.declared.event.Event.{Event}
use Rattle.hls_core_laws.specs.declared.event.Event.TheVariants.{Trim}
use Rattle.hls_core_laws.specs.State.{State}
use Rattle.hls_core_laws.specs.Places.{places, floors}
use Rattle.hls_core_laws.specs.Line.{line}
use Rattle.hls_core.specs.Upkeeps.{upkeep_view}

-- the old places of a state are those at or before a time
pub record IsOldUntil (s : State) (keep time : ℕ) : Type 0 where
  pub front : Place
  pub front_is : front_of (line s) ≡ Some front
  pub last : Place
  pub last_is : slice_get (places s) (length (places s) - 1) ≡ Some last
  pub before_front : time ≤ time_of front
  pub before_last : time + keep ≤ time_of last
  pub most : (p : Place) → is_old keep front last p ≡ true → time_of p ≤ time

-- no place is old
abbrev pub NoneOld : State → ℕ → Type 0
NoneOld s keep =
    (front last p : Place) → front_of (line s) ≡ Some front → slice_get (places s) (length (places s) - 1) ≡ Some last → is_old keep front last p ≡ true → ⊥

-- the place up to which units may be trimmed, whatever the window
abbrev pub IsTrimPlaceAt : State → ℕ → Place → Type 0
IsTrimPlaceAt s keep cut = (window : ℕ) → IsTrimPlaceOf (upkeep_view s window keep) cut

-- there is no place up to which units may be trimmed, whatever the window
abbrev pub HasNoTrimPlace : State → ℕ → Type 0
HasNoTrimPlace s keep = (window : ℕ) (cut : Place) → IsTrimPlaceOf (upkeep_view s window keep) cut → ⊥

-- in each rendition before number r, the floor isn't below the place's fragment
abbrev pub ReachedBefore : State → Place → ℕ → Type 0
ReachedBefore s p r = (k : ℕ) → k < r → (spot_in p.spots k).fragment ≤ slice_index (floors s) k

-- the trim of the first rendition whose floor is below the place's fragment, to that fragment
pub record IsFirstBelow (s : State) (cut : Place) (event : Event) : Type 0 where
  pub rendition : ℕ
  pub floor : ℕ
  pub is : event ≡ Trim rendition floor
  pub within : rendition < length (floors s)
  pub floor_is : floor ≡ (spot_in cut.spots rendition).fragment
  pub below : slice_index (floors s) rendition < floor
  pub before : ReachedBefore s cut rendition
