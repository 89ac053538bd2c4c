-- Tables of places, from which programmes are cut and which certificates contain.
use Rattle.std.specs.Prelude.{◌≡◌, ℕ, ◌^◌, ◌<◌, ◌≤◌, List, [], Option, Some, None, length, slice_index_or, All}
use Rattle.hls_check_tables.specs.declared.cost_rule.CostRule.{CostRule}
use Rattle.hls_check_tables.specs.declared.cost_rule.CostRule.TheVariants.{Deviation, Charged}
use Rattle.hls_check_tables.specs.declared.goal.Goal.{Goal}
use Rattle.hls_check_tables.specs.declared.spot.Spot.{Spot}

-- The content of a table in a certificate. A place is a list of spots, one for each rendition, in the order of the renditions; times and
-- lengths are in microseconds, the target is in seconds.
pub record Table : Type 0 where
  pub goal : Goal
  pub renditions : ℕ
  pub places : List (List Spot)

-- a spot of zeros, the default for a place that has no such spot
abbrev pub no_spot : Spot
no_spot = record { fragment = 0; prev_end = 0; start = 0; run_in = 0; run_out = 0 }

-- a place's spot in rendition r
abbrev pub spot_in : List Spot → ℕ → Spot
spot_in place r = slice_index_or place r no_spot

-- place p, or one without spots if there is none
abbrev pub place_at : List (List Spot) → ℕ → List Spot
place_at places p = slice_index_or places p []

-- each number of a spot is in its range
pub record IsSpotInRange (spot : Spot) : Type 0 where
  pub fragment_small : spot.fragment < 2 ^ 53
  pub prev_end_small : spot.prev_end < 2 ^ 53
  pub start_small : spot.start < 2 ^ 53
  pub run_in_small : spot.run_in < 2 ^ 53
  pub run_out_small : spot.run_out < 2 ^ 53

-- a place with exactly one spot for each rendition
pub record IsPlaceOf (renditions : ℕ) (place : List Spot) : Type 0 where
  pub count : length place ≡ renditions
  pub spots : All IsSpotInRange place

-- a rule's charge for each segment, in microseconds
abbrev pub charge_of : CostRule → ℕ
charge_of Deviation = 0
charge_of (Charged charge) = charge

-- the rule with this charge, if there is one; a charge of 0 is a rule of its own
abbrev pub rule_of : Option ℕ → CostRule
rule_of None = Deviation
rule_of (Some charge) = Charged charge

-- the maximum target, in seconds
abbrev pub target_limit : ℕ
target_limit = 3600

-- the maximum preferred length of a segment, in microseconds
abbrev pub preferred_limit : ℕ
preferred_limit = 3600000000

-- the maximum charge for each segment, in microseconds
abbrev pub charge_limit : ℕ
charge_limit = 3600000000

-- the target, the preferred length and the charge of a goal are at most an hour each, and the first two are above 0
pub record IsGoal (goal : Goal) : Type 0 where
  pub target : (1 ≤ goal.target) × (goal.target ≤ target_limit)
  pub preferred : (1 ≤ goal.preferred) × (goal.preferred ≤ preferred_limit)
  pub charge : charge_of goal.rule ≤ charge_limit

-- the goal of this target, preferred length and rule
abbrev pub goal_of : ℕ → ℕ → CostRule → Goal
goal_of target preferred rule = record { target = target; preferred = preferred; rule = rule }

-- the maximum number of renditions of a table
abbrev pub rendition_limit : ℕ
rendition_limit = 16

-- the maximum number of places of a table
abbrev pub place_limit : ℕ
place_limit = 16384

-- what a table has is in its ranges: its goal, its numbers of renditions and places, and each place
pub record IsTable (t : Table) : Type 0 where
  pub goal : IsGoal t.goal
  pub renditions : (1 ≤ t.renditions) × (t.renditions ≤ rendition_limit)
  pub count : (2 ≤ length t.places) × (length t.places ≤ place_limit)
  pub places : All (IsPlaceOf t.renditions) t.places

-- the table of a goal and places
abbrev pub table_of : Goal → ℕ → List (List Spot) → Table
table_of goal renditions places = record { goal = goal; renditions = renditions; places = places }
