-- Steps from place to place: which are allowed, and their costs.
use Rattle.std.specs.Prelude.{◌≡◌, ℕ, ◌+◌, ◌-◌, ◌<◌, List, length}
use Rattle.std.specs.Int.{abs_diff}
use Rattle.hls_time.specs.Times.{Fits}
use Rattle.hls_check_tables.specs.declared.goal.Goal.{Goal}
use Rattle.hls_check_tables.specs.declared.spot.Spot.{Spot}
use Rattle.hls_check_tables.specs.Tables.{Table, spot_in, place_at, charge_of}

-- One segment can span from a spot to another of the same rendition: it contains a fragment, there is no gap inside, and its length fits
-- the target after rounding to whole seconds.
pub record IsSpotStep (target : ℕ) (from to : Spot) : Type 0 where
  pub later : from.fragment < to.fragment
  pub unbroken : from.run_out ≡ to.run_in
  pub forward : from.start < to.prev_end
  pub fits : Fits (to.prev_end - from.start) target

-- one segment can span from a place to another in each rendition
abbrev pub IsStep : ℕ → ℕ → List Spot → List Spot → Type 0
IsStep target renditions from to =
    (r : ℕ) → r < renditions → IsSpotStep target (spot_in from r) (spot_in to r)

-- one segment can span between two places, which have the same number of renditions
pub record IsPlaceStep (target : ℕ) (from to : List Spot) : Type 0 where
  pub same : length to ≡ length from
  pub step : IsStep target (length from) from to

-- the step from place p to place q of a table is allowed
pub record Allowed (t : Table) (p q : ℕ) : Type 0 where
  pub from : p < length t.places
  pub to : q < length t.places
  pub step : IsStep t.goal.target t.renditions (place_at t.places p) (place_at t.places q)

-- the length of a segment in rendition 0, in microseconds
abbrev pub length_between : List Spot → List Spot → ℕ
length_between from to = (spot_in to 0).prev_end - (spot_in from 0).start

-- the deviation of a segment's length in rendition 0 from the preferred one, in microseconds
abbrev pub deviation : ℕ → List Spot → List Spot → ℕ
deviation preferred from to = abs_diff (length_between from to) preferred

-- the cost of a step, in microseconds: its deviation, plus the rule's charge for a segment
abbrev pub step_cost : Goal → List Spot → List Spot → ℕ
step_cost goal from to = deviation goal.preferred from to + charge_of goal.rule

-- the cost of the step from place p to place q of a table, in microseconds
abbrev pub cost : Table → ℕ → ℕ → ℕ
cost t p q = step_cost t.goal (place_at t.places p) (place_at t.places q)

-- The maximum cost of an allowed step, in microseconds: its length fits a target of at most an hour after rounding, and the charge
-- for a segment is at most an hour.
abbrev pub cost_limit : ℕ
cost_limit = 7200499999
