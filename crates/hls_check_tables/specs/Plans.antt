-- The plans of a table, their costs, and which is optimal.
use Rattle.std.specs.Prelude.{◌≡◌, ℕ, ◌+◌, ◌-◌, ◌≤◌, List, [], ◌∷◌, length}
use Rattle.hls_check_tables.specs.Tables.{Table}
use Rattle.hls_check_tables.specs.Steps.{Allowed, cost}

-- each step is allowed, from place p along the rest of a plan
abbrev pub StepsAreAllowed : Table → ℕ → List ℕ → Type 0
StepsAreAllowed t p [] = Unit {0}
StepsAreAllowed t p (q ∷ rest) = Allowed t p q × StepsAreAllowed t q rest

-- the last place, from place p along the rest of a plan
abbrev pub last_place : ℕ → List ℕ → ℕ
last_place p [] = p
last_place p (q ∷ rest) = last_place q rest

-- a plan begins with the table's first place and ends with its last
abbrev pub HasEnds : Table → List ℕ → Type 0
HasEnds t [] = ⊥
HasEnds t (p ∷ rest) = (p ≡ 0) × (last_place p rest ≡ length t.places - 1)

-- the sum of the steps' costs, from place p along the rest of a plan
abbrev pub cost_from : Table → ℕ → List ℕ → ℕ
cost_from t p [] = 0
cost_from t p (q ∷ rest) = cost t p q + cost_from t q rest

-- a plan leads from the first place to the last by allowed steps
abbrev pub IsPlan : Table → List ℕ → Type 0
IsPlan t [] = ⊥
IsPlan t (p ∷ rest) = (p ≡ 0) × (last_place p rest ≡ length t.places - 1) × StepsAreAllowed t p rest

-- the cost of a plan: the sum of its steps' costs
abbrev pub plan_cost : Table → List ℕ → ℕ
plan_cost t [] = 0
plan_cost t (p ∷ rest) = cost_from t p rest

-- a plan is optimal: no plan of the table costs less
pub record IsLeast (t : Table) (plan : List ℕ) : Type 0 where
  pub is_plan : IsPlan t plan
  pub least : (other : List ℕ) → IsPlan t other → plan_cost t plan ≤ plan_cost t other

-- no list of places is a plan of the table, so it can't be cut
abbrev pub HasNoPlan : Table → Type 0
HasNoPlan t = (plan : List ℕ) → IsPlan t plan → ⊥
