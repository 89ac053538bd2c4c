-- The first pair of a plan that isn't a step, and the first step that breaks a rule.
use Rattle.std.specs.Prelude.{◌≡◌, ℕ, ◌+◌, ◌<◌, List, length, slice_index}
use Rattle.hls_check_tables.specs.Tables.{Table}
use Rattle.hls_check_tables.specs.Steps.{Allowed}

-- an allowed step that leads forward
pub record IsForwardStep (t : Table) (p q : ℕ) : Type 0 where
  pub rises : p < q
  pub allowed : Allowed t p q

-- the pair at k of a plan is an allowed step forward
abbrev pub IsStepAt : Table → List ℕ → ℕ → Type 0
IsStepAt t plan k = IsForwardStep t (slice_index plan k) (slice_index plan (k + 1))

-- each pair of a plan is an allowed step forward
abbrev pub HasSteps : Table → List ℕ → Type 0
HasSteps t plan = (k : ℕ) → k + 1 < length plan → IsStepAt t plan k

-- places p and q are the first pair of a plan that isn't an allowed step forward
pub record IsFirstBadPair (t : Table) (plan : List ℕ) (p q : ℕ) : Type 0 where
  pub at : ℕ
  pub in_plan : at + 1 < length plan
  pub is_from : slice_index plan at ≡ p
  pub is_to : slice_index plan (at + 1) ≡ q
  pub bad : IsForwardStep t p q → ⊥
  pub good_before : (k : ℕ) → k < at → IsStepAt t plan k

-- the step from p to q is the first from p that breaks a rule
pub record IsFirstInRow (Holds : ℕ → ℕ → Type 0) (p q : ℕ) : Type 0 where
  pub broken : Holds p q → ⊥
  pub before : (j : ℕ) → j < q → Holds p j

-- the step from p to q is the first of all that breaks a rule: p is the least, and then q
pub record IsFirstBrokenStep (Holds : ℕ → ℕ → Type 0) (p q : ℕ) : Type 0 where
  pub in_row : IsFirstInRow Holds p q
  pub rows : (i j : ℕ) → i < p → Holds i j
