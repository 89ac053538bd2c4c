-- Certificates: their claims, their form, and which are good.
use Rattle.std.specs.Prelude.{◌≡◌, ℕ, ◌+◌, ◌-◌, ◌^◌, ◌<◌, ◌≤◌, List, length, slice_index_or, All, Option, Some, None, Bool, true, false}
use Rattle.hls_check_tables.specs.declared.certificate.Claim.{Claim}
use Rattle.hls_check_tables.specs.declared.certificate.Claim.TheVariants.{Cut, NoCut}
use Rattle.hls_check_tables.specs.Tables.{Table, IsTable}
use Rattle.hls_check_tables.specs.Steps.{Allowed, cost}
use Rattle.hls_check_tables.specs.Orders.{IsSorted}
use Rattle.hls_check_tables.specs.Plans.{IsPlan, plan_cost}

-- the claim of a certificate: a plan, its cost and a price for each place that can be reached, or the closed set of the places that can be
-- reached, one flag for each place
pub data ClaimData : Type 0 where
  CutClaim : (total : ℕ) (plan : List ℕ) (prices : List (Option ℕ)) → ClaimData
  NoneClaim : (closed : List Bool) → ClaimData

-- a certificate: a table and a claim over it
pub record CertificateData : Type 0 where
  pub table : Table
  pub shown : ClaimData

-- the data of a claim
abbrev pub claim_data : Claim → ClaimData
claim_data (Cut total plan prices) = CutClaim total plan.items prices.items
claim_data (NoCut closed) = NoneClaim closed.items

-- the price of place p, if it has one
abbrev pub price_at : List (Option ℕ) → ℕ → Option ℕ
price_at prices p = slice_index_or prices p None

-- whether place p is in the closed set
abbrev pub is_closed : List Bool → ℕ → Bool
is_closed closed p = slice_index_or closed p false

-- a price, if there is one, is in range
abbrev pub IsPriceInRange : Option ℕ → Type 0
IsPriceInRange None = Unit {0}
IsPriceInRange (Some price) = price < 2 ^ 53

-- the form of a cut over the given number of places
pub record IsCutForm (count total : ℕ) (plan : List ℕ) (prices : List (Option ℕ)) : Type 0 where
  pub total_small : total < 2 ^ 53
  pub not_empty : 0 < length plan
  pub in_range : All (λ p. p < count) plan
  pub one_each : length prices ≡ count
  pub prices_small : All IsPriceInRange prices

-- the form of a claim over the given number of places
abbrev pub IsForm : ℕ → ClaimData → Type 0
IsForm count (CutClaim total plan prices) = IsCutForm count total plan prices
IsForm count (NoneClaim closed) = length closed ≡ count

-- the form of a certificate: it can be printed
pub record IsCertificate (c : CertificateData) : Type 0 where
  pub table : IsTable c.table
  pub form : IsForm (length c.table.places) c.shown

-- if the first place has a price, so has the second, and it is at most the first price plus the cost of the step
abbrev pub KeepsPrice : ℕ → Option ℕ → Option ℕ → Type 0
KeepsPrice cost None to = Unit {0}
KeepsPrice cost (Some from) None = ⊥
KeepsPrice cost (Some from) (Some to) = to ≤ from + cost

-- an allowed forward step from p to q respects the prices
abbrev pub CutKeepsPrices : Table → List (Option ℕ) → ℕ → ℕ → Type 0
CutKeepsPrices t prices p q =
    p < q → Allowed t p q → KeepsPrice (cost t p q) (price_at prices p) (price_at prices q)

-- an allowed forward step from p to q stays in the closed set
abbrev pub NoneKeepsClosed : Table → List Bool → ℕ → ℕ → Type 0
NoneKeepsClosed t closed p q = p < q → Allowed t p q → is_closed closed p ≡ true → is_closed closed q ≡ true

-- the plan's cost, the printed cost and the last place's price are equal
pub record HasEqualCosts (t : Table) (total : ℕ) (plan : List ℕ) (prices : List (Option ℕ)) : Type 0 where
  pub paid : plan_cost t plan ≡ total
  pub priced : price_at prices (length t.places - 1) ≡ Some total

-- A certificate of a cut is good: the table is sorted, the plan is one and costs what is printed, the first price is 0, and every
-- step respects the prices.
pub record IsGoodCut (t : Table) (total : ℕ) (plan : List ℕ) (prices : List (Option ℕ)) : Type 0 where
  pub sorted : IsSorted t
  pub is_plan : IsPlan t plan
  pub paid : HasEqualCosts t total plan prices
  pub start : price_at prices 0 ≡ Some 0
  pub keeps : (p q : ℕ) → CutKeepsPrices t prices p q

-- A certificate of no cut is good: the table is sorted, the closed set has the first place and not the last, and no step leaves it.
pub record IsGoodNone (t : Table) (closed : List Bool) : Type 0 where
  pub sorted : IsSorted t
  pub start : is_closed closed 0 ≡ true
  pub keeps : (p q : ℕ) → NoneKeepsClosed t closed p q
  pub without_end : is_closed closed (length t.places - 1) ≡ false

-- the claim is good over the table
abbrev pub IsGoodOver : Table → ClaimData → Type 0
IsGoodOver t (CutClaim total plan prices) = IsGoodCut t total plan prices
IsGoodOver t (NoneClaim closed) = IsGoodNone t closed

-- a certificate is good: its claim is good over its table
abbrev pub IsGood : CertificateData → Type 0
IsGood c = IsGoodOver c.table c.shown
