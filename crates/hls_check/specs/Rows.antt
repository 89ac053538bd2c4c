-- For the proofs of this crate; no public clause cites it. Prices and closed sets are one rule here: a place of a closed set has the price
-- 0, and the others have none.

use Rattle.std.specs.Prelude.{◌≡◌, ℕ, ◌+◌, ◌*◌, ◌<◌, ◌≤◌, List, map, Option, Some, None, MatchOption, Bool, true, false}
use Rattle.std.specs.Bool.{MatchBool}
use Rattle.hls_check_tables.specs.Tables.{Table, spot_in, place_at}
use Rattle.hls_check_tables.specs.Plans.{IsPlan}
use Rattle.hls_check_tables.specs.Orders.{IsSorted}
use Rattle.hls_check_tables.specs.Certificates.{ClaimData, CutClaim, NoneClaim, price_at, is_closed, CutKeepsPrices, HasEqualCosts}
use Rattle.hls_check.specs.Faults.{IsFirstInRow, IsFirstBrokenStep}

-- the price for a flag of a closed set
abbrev pub price_if_closed : Bool → Option ℕ
price_if_closed true = Some 0
price_if_closed false = None

-- the prices of a claim
abbrev pub claimed_prices : ClaimData → List (Option ℕ)
claimed_prices (CutClaim total plan prices) = prices
claimed_prices (NoneClaim closed) = map price_if_closed closed

-- the step from place p to place q respects the prices of a claim
abbrev pub StepKeepsPrices : Table → ClaimData → ℕ → ℕ → Type 0
StepKeepsPrices t shown = CutKeepsPrices t (claimed_prices shown)

-- all steps from the places in `first..end` respect the prices of a claim
abbrev pub RowsKeepPrices : Table → ClaimData → ℕ → ℕ → Type 0
RowsKeepPrices t shown first end = (i j : ℕ) → first ≤ i → i < end → StepKeepsPrices t shown i j

-- the step from p to q is the first that breaks the prices, among those from the places in `first..end`
pub record IsFirstOfRows (t : Table) (shown : ClaimData) (first end p q : ℕ) : Type 0 where
  pub from : first ≤ p
  pub below : p < end
  pub in_row : IsFirstInRow (StepKeepsPrices t shown) p q
  pub rows : RowsKeepPrices t shown first p

-- the step from p to q is the first from p that breaks the prices, and p is one of the 32 places from `first` on
pub record IsFirstFound (t : Table) (shown : ClaimData) (first p q : ℕ) : Type 0 where
  pub from : first ≤ p
  pub below : p < first + 32
  pub in_row : IsFirstInRow (StepKeepsPrices t shown) p q

-- all steps from a block of 32 places respect the prices
abbrev pub BlockKeepsPrices : Table → ClaimData → ℕ → Type 0
BlockKeepsPrices t shown block = RowsKeepPrices t shown (block * 32) (block * 32 + 32)

-- this is the first block in `first..end` with a step that breaks the prices
pub record IsFirstBadBlock (t : Table) (shown : ClaimData) (first end block : ℕ) : Type 0 where
  pub from : first ≤ block
  pub below : block < end
  pub bad : BlockKeepsPrices t shown block → ⊥
  pub before : (b : ℕ) → first ≤ b → b < block → BlockKeepsPrices t shown b

-- all steps to place q from the places in `first..end` respect the prices
abbrev pub ColumnKeepsPrices : Table → ClaimData → ℕ → ℕ → ℕ → Type 0
ColumnKeepsPrices t shown first end q = (i : ℕ) → first ≤ i → i < end → StepKeepsPrices t shown i q

-- place p is the first in `first..end` from which the step to q breaks the prices
pub record IsFirstOfColumn (t : Table) (shown : ClaimData) (first end q p : ℕ) : Type 0 where
  pub from : first ≤ p
  pub below : p < end
  pub broken : StepKeepsPrices t shown p q → ⊥
  pub column : ColumnKeepsPrices t shown first p q

-- of the places in `first..end` that have a price, none has a lower price than this, and none starts later than this
abbrev pub IsLowerBound : Table → ClaimData → ℕ → ℕ → ℕ → ℕ → Type 0
IsLowerBound t shown first end price start =
    (p v : ℕ) → first ≤ p → p < end → price_at (claimed_prices shown) p ≡ Some v →
    (price ≤ v) × ((spot_in (place_at t.places p) 0).start ≤ start)

-- if some places have prices of at least this one, or none, and start by this time, every step from them to q respects the prices
abbrev pub IsBelowBound : Table → ClaimData → ℕ → ℕ → ℕ → Type 0
IsBelowBound t shown price start q = (first end : ℕ) → IsLowerBound t shown first end price start → ColumnKeepsPrices t shown first end q

-- None if all steps from the places in `first..end` respect the prices, otherwise the first that doesn't
abbrev pub IsFirstOfRowsOrNone : Table → ClaimData → ℕ → ℕ → Option (ℕ × ℕ) → Type 0
IsFirstOfRowsOrNone t shown first end found =
    MatchOption found (RowsKeepPrices t shown first end) (λ step. IsFirstOfRows t shown first end step.0 step.1)

-- None if all steps respect the prices, otherwise the first that doesn't
abbrev pub IsFirstBrokenOrNone : Table → ClaimData → Option (ℕ × ℕ) → Type 0
IsFirstBrokenOrNone t shown found =
    MatchOption found ((p q : ℕ) → StepKeepsPrices t shown p q) (λ step. IsFirstBrokenStep (StepKeepsPrices t shown) step.0 step.1)

-- None if all steps from the blocks in `first..end` respect the prices, otherwise the first block with a step that doesn't
abbrev pub IsFirstBadBlockOrNone : Table → ClaimData → ℕ → ℕ → Option ℕ → Type 0
IsFirstBadBlockOrNone t shown first end found =
    MatchOption found ((b : ℕ) → first ≤ b → b < end → BlockKeepsPrices t shown b) (IsFirstBadBlock t shown first end)

-- the flag says whether a block has a step that breaks the prices
abbrev pub DecidesBlock : Table → ClaimData → ℕ → Bool → Type 0
DecidesBlock t shown block bad = MatchBool bad (BlockKeepsPrices t shown block → ⊥) (BlockKeepsPrices t shown block)

-- the claim passes the tests that come before those of the steps
abbrev pub HasNoEarlyFault : Table → ClaimData → Type 0
HasNoEarlyFault t (CutClaim total plan prices) =
    IsSorted t × IsPlan t plan × HasEqualCosts t total plan prices × (price_at prices 0 ≡ Some 0)
HasNoEarlyFault t (NoneClaim closed) = IsSorted t × (is_closed closed 0 ≡ true)
