-- The lemmas on a search through the steps: the steps examined so far respect the prices, and the next step, column or block does too.
use Rattle.std.proofs.Common.{◌≡◌, ℕ, ◌+◌, ◌<◌, ◌≤◌, ◌↔◌, length, min, Bool, true, false, Option, Some, None, refl, inl, inr, arith}
use Rattle.std.proofs.lemmas.Bool.{cases_lt, cases_eq}
use Rattle.std.specs.Prelude.{IsTrue, MatchOption}
use Rattle.std.specs.Bool.{MatchBool}
use Rattle.hls_check_tables.specs.Tables.{Table}
use Rattle.hls_check_tables.specs.Steps.{Allowed, cost}
use Rattle.hls_check_tables.specs.Certificates.{ClaimData, KeepsPrice, price_at}
use Rattle.hls_check.specs.Rows.{claimed_prices, StepKeepsPrices, RowsKeepPrices, ColumnKeepsPrices, IsFirstOfColumn, IsFirstFound, IsLowerBound, IsFirstOfRowsOrNone}

-- every step from a place without a price respects the prices
pub unpriced : (t : Table) (shown : ClaimData) (p q : ℕ) → price_at (claimed_prices shown) p ≡ None → StepKeepsPrices t shown p q
unpriced t shown p q none = λ forward allowed. rw none tt

-- a step that is examined with its cost and the prices at its two ends respects the prices, if the price after it is low enough
pub kept : (t : Table) (shown : ClaimData) (p q price between : ℕ) (to : Option ℕ) → Some price ≡ price_at (claimed_prices shown) p
    → between ≡ cost t p q → to ≡ price_at (claimed_prices shown) q → KeepsPrice between (Some price) to → StepKeepsPrices t shown p q
kept t shown p q price between to from_is between_is to_is keeps = λ forward allowed. (rw (from_is, between_is, to_is) at keeps)

-- a step whose end has too high a price, or none, breaks the prices if it is allowed, and respects them otherwise
pub unkept : (t : Table) (shown : ClaimData) (p q price between : ℕ) (to : Option ℕ) (step : Bool) → p < q → Some price ≡ price_at (claimed_prices shown) p
    → between ≡ cost t p q → to ≡ price_at (claimed_prices shown) q → (KeepsPrice between (Some price) to → IsTrue false) → (IsTrue step ↔ Allowed t p q)
    → MatchBool step (StepKeepsPrices t shown p q → ⊥) (StepKeepsPrices t shown p q)
unkept t shown p q price between to true forward from_is between_is to_is breaks is_step =
    λ keeps. let no : false ≡ true = breaks (rw (from_is, between_is, to_is) (keeps forward (is_step.0 refl))) in cc
unkept t shown p q price between to false forward from_is between_is to_is breaks is_step =
    λ forward allowed. let no : false ≡ true = is_step.1 allowed in cc

-- if P holds of the places in `first..p` and of p, it holds of `first..p + 1`
pub more_places : (P : ℕ → Type 0) (first p : ℕ) → ((i : ℕ) → first ≤ i → i < p → P i) → P p → (i : ℕ) → first ≤ i → i < p + 1 → P i
more_places P first p before here i from below = elim (cases_eq i p) [ inl same ↦ rw same here | inr other ↦ before i from (omega arith) ]

-- if P holds of all steps to places before q and of those to q, it holds of all steps to places before q + 1
pub more_columns : (P : ℕ → ℕ → Type 0) (first end q : ℕ) → ((i j : ℕ) → first ≤ i → i < end → j < q → P i j)
    → ((i : ℕ) → first ≤ i → i < end → P i q) → (i j : ℕ) → first ≤ i → i < end → j < q + 1 → P i j
more_columns P first end q before here i j from below to =
    elim (cases_eq j q) [ inl same ↦ rw same (here i from below) | inr other ↦ before i j from below (omega arith) ]

-- if the steps from `first..end` and from `end..next` respect the prices, so do those from `first..next`
pub more_rows : (t : Table) (shown : ClaimData) (first end next : ℕ) → RowsKeepPrices t shown first end → RowsKeepPrices t shown end next → RowsKeepPrices t shown first next
more_rows t shown first end next before here i j from below = elim (cases_lt i end) [ inl low ↦ before i j from low | inr high ↦ here i j high below ]

-- to search a column it is enough to examine the places before q: no step leads forward to q from the others
pub whole_column : (t : Table) (shown : ClaimData) (first end q before : ℕ) (found : Option ℕ) → before ≡ min end q
    → MatchOption found (ColumnKeepsPrices t shown first before q) (IsFirstOfColumn t shown first before q)
    → MatchOption found (ColumnKeepsPrices t shown first end q) (IsFirstOfColumn t shown first end q)
whole_column t shown first end q before None before_is keeps = λ i from below forward. keeps i from (omega arith) forward
whole_column t shown first end q before (Some p) before_is is = record {
  from = is.from;
  below = omega (arith, is.below);
  broken = is.broken;
  column = is.column;
}

-- no step leads forward from a place of a block to the block's first place or to an earlier one
pub no_columns : (t : Table) (shown : ClaimData) (first end : ℕ) → (i j : ℕ) → first ≤ i → i < end → j < first + 1 → StepKeepsPrices t shown i j
no_columns t shown first end i j from below to = λ forward. absurd (omega arith)

-- The state of a search through a block after it found a broken step from p to q: the steps from earlier rows up to column q
-- respect the prices, and `price` and `start` bound those rows.
pub record IsCut (t : Table) (shown : ClaimData) (first p q price start : ℕ) : Type 0 where
  pub within : p ≤ first + 32
  pub so_far : (i j : ℕ) → first ≤ i → i < p → j < q + 1 → StepKeepsPrices t shown i j
  pub found : IsFirstFound t shown first p q
  pub lower_bound : IsLowerBound t shown first p price start

-- the first broken step of a column, after columns whose steps respect the prices, leaves a search in such a state
pub cut_at : (t : Table) (shown : ClaimData) (first end p q price start : ℕ) → end ≤ first + 32
    → ((i j : ℕ) → first ≤ i → i < end → j < q → StepKeepsPrices t shown i j) → IsLowerBound t shown first end price start
    → IsFirstOfColumn t shown first end q p → IsCut t shown first p q price start
cut_at t shown first end p q price start within so_far lower_bound here =
    let below : p < end = here.below in
    record {
      within = omega arith;
      so_far = more_columns (StepKeepsPrices t shown) first p q (λ i j from under. so_far i j from (omega arith)) here.column;
      found = record {
        from = here.from;
        below = omega arith;
        in_row = record {
          broken = here.broken;
          before = λ j to. so_far p j here.from below to;
        };
      };
      lower_bound = λ i v from under. lower_bound i v from (omega arith);
    }

-- when a search has examined all columns, the step that it found last is the block's first broken one, if it found any
pub found_of_rows : (t : Table) (shown : ClaimData) (first end q : ℕ) (found : Option (ℕ × ℕ)) → length t.places ≤ q
    → ((i j : ℕ) → first ≤ i → i < end → j < q → StepKeepsPrices t shown i j)
    → MatchOption found (end ≡ min (length t.places) (first + 32)) (λ step. (step.0 ≡ end) × IsFirstFound t shown first step.0 step.1)
    → IsFirstOfRowsOrNone t shown first (first + 32) found
found_of_rows t shown first end q None past so_far all =
    λ i j from below forward allowed. so_far i j from (omega (arith, allowed.from)) (omega (arith, allowed.to)) forward allowed
found_of_rows t shown first end q (Some step) past so_far is = record {
  from = is.1.from;
  below = is.1.below;
  in_row = is.1.in_row;
  rows = λ i j from below forward allowed. so_far i j from (omega (arith, is.0)) (omega (arith, allowed.to)) forward allowed;
}

-- if the steps from all places up to the last respect the prices, all steps do
pub all_rows : (t : Table) (shown : ClaimData) (first : ℕ) → length t.places ≤ first → RowsKeepPrices t shown 0 first → (p q : ℕ) → StepKeepsPrices t shown p q
all_rows t shown first past rows p q = λ forward allowed. rows p q (omega arith) (omega (arith, allowed.from)) forward allowed
