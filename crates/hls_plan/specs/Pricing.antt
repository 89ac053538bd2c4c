-- For the proofs of this crate; no public clause cites it.

use Rattle.std.specs.Prelude.{◌≡◌, ℕ, ◌+◌, ◌-◌, ◌*◌, ◌<◌, ◌≤◌, List, ◌∷◌, length, reverse, slice_index, map, is_some, nat_lt, Option, Some, None, Bool, true}
use Rattle.hls_plan.specs.declared.planned.Planned.{Planned}
use Rattle.hls_plan.specs.declared.planned.Planned.TheVariants.{Cut, NoCut}
use Rattle.hls_check_tables.specs.Tables.{Table}
use Rattle.hls_check_tables.specs.Steps.{Allowed, cost, cost_limit}
use Rattle.hls_check_tables.specs.Plans.{StepsAreAllowed, last_place, cost_from, IsPlan, plan_cost}
use Rattle.hls_check_tables.specs.Certificates.{price_at, CutKeepsPrices}

-- Prices are found row by row: the steps from place 0, from place 1, and so on. Steps lead forward, so a place's price is its least when
-- its own row begins.

-- a price is lower than the one found so far, if there is one
abbrev pub is_lower_price : ℕ → Option ℕ → Bool
is_lower_price price None = true
is_lower_price price (Some found) = nat_lt price found

-- place q was reached at this price by a step from an origin that has a price itself
pub record IsReached (t : Table) (prices : List (Option ℕ)) (q price origin : ℕ) : Type 0 where
  pub earlier : origin < q
  pub allowed : Allowed t origin q
  pub before : ℕ
  pub priced : price_at prices origin ≡ Some before
  pub sum : price ≡ before + cost t origin q

-- the prices when row p has been examined up to place q
pub record IsPricing (t : Table) (p q : ℕ) (prices : List (Option ℕ)) (origins : List ℕ) : Type 0 where
  pub one_each : length prices ≡ length t.places
  pub origin_each : length origins ≡ length t.places
  pub start : price_at prices 0 ≡ Some 0
  pub reached : (k price : ℕ) → 0 < k → price_at prices k ≡ Some price →
      IsReached t prices k price (slice_index origins k)
  pub origin_done : (k price : ℕ) → 0 < k → price_at prices k ≡ Some price → slice_index origins k ≤ p
  pub bound : (k price : ℕ) → price_at prices k ≡ Some price → price ≤ k * cost_limit
  pub rows : (i j : ℕ) → i < p → CutKeepsPrices t prices i j
  pub row : (j : ℕ) → j < q → CutKeepsPrices t prices p j

-- the path traced back from the last place to this one, and its cost
pub record IsPathBack (t : Table) (prices : List (Option ℕ)) (at : ℕ) (path : List ℕ) : Type 0 where
  pub rest : List ℕ
  pub is : reverse path ≡ at ∷ rest
  pub steps_allowed : StepsAreAllowed t at rest
  pub ends : last_place at rest ≡ length t.places - 1
  pub price : ℕ
  pub priced : price_at prices at ≡ Some price
  pub paid : price_at prices (length t.places - 1) ≡ Some (price + cost_from t at rest)

-- the facts from which a plan and its prices follow
pub record IsCutFound (t : Table) (plan : List ℕ) (prices : List (Option ℕ)) : Type 0 where
  pub origins : List ℕ
  pub pricing : IsPricing t (length t.places) 0 prices origins
  pub is_plan : IsPlan t plan
  pub paid : price_at prices (length t.places - 1) ≡ Some (plan_cost t plan)

-- the facts from which a closed set follows
pub record IsNoneFound (t : Table) (closed : List Bool) : Type 0 where
  pub prices : List (Option ℕ)
  pub origins : List ℕ
  pub pricing : IsPricing t (length t.places) 0 prices origins
  pub unpriced : price_at prices (length t.places - 1) ≡ None
  pub is : closed ≡ map is_some prices

-- the planner's result follows from prices
abbrev pub IsPlannerResult : Table → Planned → Type 0
IsPlannerResult t (Cut plan prices) = IsCutFound t plan.items prices.items
IsPlannerResult t (NoCut closed) = IsNoneFound t closed.items
