-- The results of the checker, and what each means.
use Rattle.std.specs.Prelude.{◌≡◌, ◌≢◌, ℕ, ◌-◌, List, length, Option, Some, Bool, true, Result, Ok, Err}
use Rattle.hls_check_tables.specs.declared.cert_fault.CertFault.{CertFault}
use Rattle.hls_check_tables.specs.declared.cert_fault.CertFault.TheVariants.{Form, TableNotSorted, PlanEnds, PlanStep, PlanCost, PriceStart, PriceStep, EndReached, Memory}
use Rattle.hls_check_tables.specs.declared.verdict.Verdict.{Verdict}
use Rattle.hls_check_tables.specs.declared.verdict.Verdict.TheVariants.{Cut, NoCut}
use Rattle.hls_check_tables.specs.Tables.{Table}
use Rattle.hls_check_tables.specs.Orders.{IsSorted, IsFirstUnsorted}
use Rattle.hls_check_tables.specs.Plans.{IsPlan, HasEnds}
use Rattle.hls_check_tables.specs.Certificates.{CertificateData, ClaimData, CutClaim, NoneClaim, price_at, is_closed, IsGoodCut, IsGoodNone, HasEqualCosts, CutKeepsPrices, NoneKeepsClosed}
use Rattle.hls_check.specs.Faults.{IsFirstBadPair, IsFirstBrokenStep}

-- The result for a cut. The clause of a fault says that the earlier tests pass and this one fails, and which place or pair is the first.
abbrev pub CutCheckResult : Table → ℕ → List ℕ → List (Option ℕ) → Result Verdict CertFault → Type 0
CutCheckResult t total plan prices (Ok (Cut cost)) = (cost ≡ total) × IsGoodCut t total plan prices
CutCheckResult t total plan prices (Ok NoCut) = ⊥
CutCheckResult t total plan prices (Err (Form line)) = ⊥
CutCheckResult t total plan prices (Err (TableNotSorted p)) = IsFirstUnsorted t p
CutCheckResult t total plan prices (Err PlanEnds) = IsSorted t × ¬ HasEnds t plan
CutCheckResult t total plan prices (Err (PlanStep p q)) = IsSorted t × HasEnds t plan × IsFirstBadPair t plan p q
CutCheckResult t total plan prices (Err PlanCost) = IsSorted t × IsPlan t plan × ¬ HasEqualCosts t total plan prices
CutCheckResult t total plan prices (Err PriceStart) =
    IsSorted t × IsPlan t plan × HasEqualCosts t total plan prices × (price_at prices 0 ≢ Some 0)
CutCheckResult t total plan prices (Err (PriceStep p q)) =
    IsSorted t × IsPlan t plan × HasEqualCosts t total plan prices × (price_at prices 0 ≡ Some 0) ×
    IsFirstBrokenStep (CutKeepsPrices t prices) p q
CutCheckResult t total plan prices (Err EndReached) = ⊥
CutCheckResult t total plan prices (Err Memory) = ⊥

-- the result for a claim that there is no cut, in the same way
abbrev pub NoneCheckResult : Table → List Bool → Result Verdict CertFault → Type 0
NoneCheckResult t closed (Ok (Cut cost)) = ⊥
NoneCheckResult t closed (Ok NoCut) = IsGoodNone t closed
NoneCheckResult t closed (Err (Form line)) = ⊥
NoneCheckResult t closed (Err (TableNotSorted p)) = IsFirstUnsorted t p
NoneCheckResult t closed (Err PlanEnds) = ⊥
NoneCheckResult t closed (Err (PlanStep p q)) = ⊥
NoneCheckResult t closed (Err PlanCost) = ⊥
NoneCheckResult t closed (Err PriceStart) = IsSorted t × (is_closed closed 0 ≢ true)
NoneCheckResult t closed (Err (PriceStep p q)) =
    IsSorted t × (is_closed closed 0 ≡ true) × IsFirstBrokenStep (NoneKeepsClosed t closed) p q
NoneCheckResult t closed (Err EndReached) =
    IsSorted t × (is_closed closed 0 ≡ true) × ((p q : ℕ) → NoneKeepsClosed t closed p q) ×
    (is_closed closed (length t.places - 1) ≡ true)
NoneCheckResult t closed (Err Memory) = ⊥

-- the result for a claim over a table
abbrev pub CheckResultOver : Table → ClaimData → Result Verdict CertFault → Type 0
CheckResultOver t (CutClaim total plan prices) = CutCheckResult t total plan prices
CheckResultOver t (NoneClaim closed) = NoneCheckResult t closed

-- the result of the checker: Ok if and only if the certificate is good, otherwise the first fault
abbrev pub IsCheckResult : CertificateData → Result Verdict CertFault → Type 0
IsCheckResult c = CheckResultOver c.table c.shown
