-- The order of a table's places.
use Rattle.std.specs.Prelude.{◌≡◌, ℕ, ◌+◌, ◌<◌, ◌≤◌, ◌⊎◌, List, length}
use Rattle.hls_time.specs.Times.{Fits}
use Rattle.hls_check_tables.specs.declared.spot.Spot.{Spot}
use Rattle.hls_check_tables.specs.Tables.{Table, spot_in, place_at}
use Rattle.hls_check_tables.specs.Steps.{length_between}

-- a spot is in order: the fragment before it ends at or before its start, and the gap count doesn't decrease
pub record IsSpotInOrder (spot : Spot) : Type 0 where
  pub ends : spot.prev_end ≤ spot.start
  pub runs : spot.run_in ≤ spot.run_out

-- a place is after the one before it: later in rendition 0, and in no rendition at a smaller fragment number
pub record IsAfter (renditions : ℕ) (earlier later : List Spot) : Type 0 where
  pub rises : (spot_in earlier 0).start < (spot_in later 0).start
  pub keeps : (r : ℕ) → r < renditions → (spot_in earlier r).fragment ≤ (spot_in later r).fragment

-- place p is in order, in itself and relative to the one before it, if there is one
pub record IsInOrder (renditions : ℕ) (places : List (List Spot)) (p : ℕ) : Type 0 where
  pub spots : (r : ℕ) → r < renditions → IsSpotInOrder (spot_in (place_at places p) r)
  pub after : (before : ℕ) → before + 1 ≡ p → IsAfter renditions (place_at places before) (place_at places p)

-- each place is in order
abbrev pub AreSorted : ℕ → List (List Spot) → Type 0
AreSorted renditions places = (p : ℕ) → p < length places → IsInOrder renditions places p

-- the order that a checker requires of a table
abbrev pub IsSorted : Table → Type 0
IsSorted t = AreSorted t.renditions t.places

-- in no rendition does the end or the gap count of the fragment before decrease from a place to the next
pub record IsRising (renditions : ℕ) (earlier later : List Spot) : Type 0 where
  pub ends : (r : ℕ) → r < renditions → (spot_in earlier r).prev_end ≤ (spot_in later r).prev_end
  pub runs : (r : ℕ) → r < renditions → (spot_in earlier r).run_in ≤ (spot_in later r).run_in

-- neither ends nor gap counts decrease from any place to the next
abbrev pub AreRising : ℕ → List (List Spot) → Type 0
AreRising renditions places =
    (p : ℕ) → p + 1 < length places → IsRising renditions (place_at places p) (place_at places (p + 1))

-- places are in the order of common places: the checker's order, and neither ends nor gap counts decrease
pub record AreOrderly (renditions : ℕ) (places : List (List Spot)) : Type 0 where
  pub sorted : AreSorted renditions places
  pub rising : AreRising renditions places

-- the order of a table of common places
abbrev pub IsOrderly : Table → Type 0
IsOrderly t = AreOrderly t.renditions t.places

-- place p is the first that is out of order
pub record IsFirstUnsorted (t : Table) (p : ℕ) : Type 0 where
  pub in_range : p < length t.places
  pub unsorted : IsInOrder t.renditions t.places p → ⊥
  pub sorted_before : (before : ℕ) → before < p → IsInOrder t.renditions t.places before

-- some rendition has a gap between the first unit after one place and the last unit before another
pub record IsPastGap (from to : List Spot) : Type 0 where
  pub rendition : ℕ
  pub in_range : rendition < length from
  pub broken : (spot_in from rendition).run_out < (spot_in to rendition).run_in

-- the order of a table excludes every step from place p to place q and to later ones: q is too far away in rendition 0, or after a gap
abbrev pub IsRowEnd : Table → ℕ → ℕ → Type 0
IsRowEnd t p q =
    (¬ Fits (length_between (place_at t.places p) (place_at t.places q)) t.goal.target) ⊎
    IsPastGap (place_at t.places p) (place_at t.places q)
