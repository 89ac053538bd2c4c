-- The checker's result is Ok for a good certificate, and for no other.
use Rattle.std.proofs.Common.{ℕ, List, Option, Bool, Result, Ok, Err, IsOk, refl}
use Rattle.hls_check_tables.specs.declared.cert_fault.CertFault.{CertFault}
use Rattle.hls_check_tables.specs.declared.cert_fault.CertFault.TheVariants.{Form, TableNotSorted, PlanEnds, PlanStep, PlanCost, PriceStart, PriceStep, EndReached, Memory}
use Rattle.hls_check_tables.specs.declared.verdict.Verdict.{Verdict}
use Rattle.hls_check_tables.specs.declared.verdict.Verdict.TheVariants.{Cut, NoCut}
use Rattle.hls_check_tables.specs.Tables.{Table, IsTable}
use Rattle.hls_check_tables.specs.Certificates.{CertificateData, ClaimData, CutClaim, NoneClaim, IsGoodCut, IsGoodNone, IsGoodOver, IsGood}
use Rattle.hls_check.specs.CheckResults.{CutCheckResult, NoneCheckResult, CheckResultOver, IsCheckResult}
use Rattle.hls_check.proofs.PlanLists.{ends_from_plan, steps_from_plan}

-- a cut with a fault isn't good
pub cut_fault : (t : Table) → IsTable t → (total : ℕ) (plan : List ℕ) (prices : List (Option ℕ)) (fault : CertFault) →
    CutCheckResult t total plan prices (Err fault) → IsGoodCut t total plan prices → ⊥
cut_fault t ok total plan prices (Form line) answer good = answer
cut_fault t ok total plan prices (TableNotSorted p) answer good = answer.unsorted (good.sorted p answer.in_range)
cut_fault t ok total plan prices PlanEnds answer good = answer.1 (ends_from_plan t plan good.is_plan)
cut_fault t ok total plan prices (PlanStep p q) answer good =
    let bad = answer.2 in
    let step = steps_from_plan t ok good.sorted plan good.is_plan bad.at bad.in_plan in
    bad.bad (rw (← bad.is_from, ← bad.is_to) step)
cut_fault t ok total plan prices PlanCost answer good = answer.2 good.paid
cut_fault t ok total plan prices PriceStart answer good = answer.3 good.start
cut_fault t ok total plan prices (PriceStep p q) answer good =
    answer.4.in_row.broken (λ rises allowed. good.keeps p q rises allowed)
cut_fault t ok total plan prices EndReached answer good = answer
cut_fault t ok total plan prices Memory answer good = answer

-- a closed set with a fault isn't good
pub none_fault : (t : Table) (closed : List Bool) (fault : CertFault) →
    NoneCheckResult t closed (Err fault) → IsGoodNone t closed → ⊥
none_fault t closed (Form line) answer good = answer
none_fault t closed (TableNotSorted p) answer good = answer.unsorted (good.sorted p answer.in_range)
none_fault t closed PlanEnds answer good = answer
none_fault t closed (PlanStep p q) answer good = answer
none_fault t closed PlanCost answer good = answer
none_fault t closed PriceStart answer good = answer.1 good.start
none_fault t closed (PriceStep p q) answer good =
    answer.2.in_row.broken (λ rises allowed inside. good.keeps p q rises allowed inside)
none_fault t closed EndReached answer good =
    let last = answer.3 in
    let outside = good.without_end in
    cc
none_fault t closed Memory answer good = answer

-- if the result is Ok, the certificate is good
pub good_from_ok : (c : CertificateData) (r : Result Verdict CertFault) → IsCheckResult c r → IsOk r → IsGood c
good_from_ok c r answer is_ok = good_over c.table c.shown r answer is_ok
  where
    good_over : (t : Table) (shown : ClaimData) (r : Result Verdict CertFault) → CheckResultOver t shown r → IsOk r → IsGoodOver t shown
    good_over t (CutClaim total plan prices) (Ok (Cut cost)) answer is_ok = answer.1
    good_over t (CutClaim total plan prices) (Ok NoCut) answer is_ok = absurd answer
    good_over t (NoneClaim closed) (Ok (Cut cost)) answer is_ok = absurd answer
    good_over t (NoneClaim closed) (Ok NoCut) answer is_ok = answer
    good_over t shown (Err fault) answer is_ok = cc

-- if a claim over a table is good, its result is Ok
ok_over : (t : Table) → IsTable t → (shown : ClaimData) (r : Result Verdict CertFault) → CheckResultOver t shown r →
    IsGoodOver t shown → IsOk r
ok_over t ok (CutClaim total plan prices) (Ok verdict) answer good = refl
ok_over t ok (CutClaim total plan prices) (Err fault) answer good =
    absurd (cut_fault t ok total plan prices fault answer good)
ok_over t ok (NoneClaim closed) (Ok verdict) answer good = refl
ok_over t ok (NoneClaim closed) (Err fault) answer good = absurd (none_fault t closed fault answer good)

-- if the certificate is good, the result is Ok
pub ok_from_good : (c : CertificateData) → IsTable c.table → (r : Result Verdict CertFault) → IsCheckResult c r → IsGood c → IsOk r
ok_from_good c ok r answer good = ok_over c.table ok c.shown r answer good
