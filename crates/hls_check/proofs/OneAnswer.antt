-- A certificate has at most one result of the check.
use Rattle.std.proofs.Common.{◌≡◌, ℕ, ◌<◌, List, Option, Bool, Result, Ok, Err, arith, refl, sym, ap, ◌∙◌, inl, inr}
use Rattle.std.proofs.lemmas.Bool.{cases_lt, cases_eq}
use Rattle.hls_check_tables.specs.declared.cert_fault.CertFault.{CertFault}
use Rattle.hls_check_tables.specs.declared.cert_fault.CertFault.TheVariants.{Form, TableNotSorted, PlanEnds, PlanStep, PlanCost, PriceStart, PriceStep, EndReached, Memory}
use Rattle.hls_check_tables.specs.declared.verdict.Verdict.{Verdict}
use Rattle.hls_check_tables.specs.declared.verdict.Verdict.TheVariants.{Cut, NoCut}
use Rattle.hls_check_tables.specs.Tables.{Table, IsTable}
use Rattle.hls_check_tables.specs.Orders.{IsSorted, IsFirstUnsorted}
use Rattle.hls_check_tables.specs.Plans.{IsPlan}
use Rattle.hls_check_tables.specs.Certificates.{IsCertificate, CertificateData, ClaimData, CutClaim, NoneClaim}
use Rattle.hls_check.specs.Faults.{IsFirstBadPair, IsFirstBrokenStep}
use Rattle.hls_check.specs.CheckResults.{CutCheckResult, NoneCheckResult, CheckResultOver, IsCheckResult}
use Rattle.hls_check.proofs.PlanLists.{ends_from_plan, steps_from_plan}
use Rattle.hls_check.proofs.GoodAnswers.{cut_fault, none_fault}

-- if neither of two numbers is below the other, they are equal
one_first : (p q : ℕ) → (p < q → ⊥) → (q < p → ⊥) → p ≡ q
one_first p q before behind =
    elim (cases_lt p q) [
      | inl below ↦ absurd (before below)
      | inr above ↦ elim (cases_eq p q) [ inl same ↦ same | inr ne ↦ absurd (behind (omega arith)) ]
    ]

-- the first place out of order is unique
one_unsorted : (t : Table) (p q : ℕ) → IsFirstUnsorted t p → IsFirstUnsorted t q → p ≡ q
one_unsorted t p q one other =
    one_first p q (λ below. one.unsorted (other.sorted_before p below)) (λ above. other.unsorted (one.sorted_before q above))

-- a sorted table has no first place out of order
unsorted_sorted : (t : Table) (p : ℕ) → IsFirstUnsorted t p → IsSorted t → ⊥
unsorted_sorted t p first sorted = first.unsorted (sorted p first.in_range)

-- the position of the first bad pair of a plan is unique
one_at : (t : Table) (plan : List ℕ) (p q i j : ℕ) (one : IsFirstBadPair t plan p q) (other : IsFirstBadPair t plan i j) →
    one.at ≡ other.at
one_at t plan p q i j one other =
    one_first one.at other.at (λ below. one.bad (rw (← one.is_from, ← one.is_to) (other.good_before one.at below)))
    (λ above. other.bad (rw (← other.is_from, ← other.is_to) (one.good_before other.at above)))

-- a plan over a sorted table has no bad pair
bad_pair_plan : (t : Table) → IsTable t → (plan : List ℕ) (p q : ℕ) → IsSorted t → IsFirstBadPair t plan p q → IsPlan t plan → ⊥
bad_pair_plan t ok plan p q sorted first is_plan =
    first.bad (rw (← first.is_from, ← first.is_to) (steps_from_plan t ok sorted plan is_plan first.at first.in_plan))

-- the place from which the first broken step starts is unique
one_row : (Holds : ℕ → ℕ → Type 0) (p q i j : ℕ) → IsFirstBrokenStep Holds p q → IsFirstBrokenStep Holds i j → p ≡ i
one_row Holds p q i j one other =
    one_first p i (λ below. one.in_row.broken (other.rows p q below)) (λ above. other.in_row.broken (one.rows i j above))

-- the place at which the first broken step ends is unique
one_place : (Holds : ℕ → ℕ → Type 0) (p q j : ℕ) → IsFirstBrokenStep Holds p q → IsFirstBrokenStep Holds p j → q ≡ j
one_place Holds p q j one other =
    one_first q j (λ below. one.in_row.broken (other.in_row.before q below)) (λ above. other.in_row.broken (one.in_row.before j above))

-- two faults of one cut are the same
cut_faults : (t : Table) → IsTable t → (total : ℕ) (plan : List ℕ) (prices : List (Option ℕ)) (one other : CertFault) →
    CutCheckResult t total plan prices (Err one) → CutCheckResult t total plan prices (Err other) → one ≡ other
cut_faults t ok total plan prices (TableNotSorted p) (TableNotSorted q) a b = ap (λ (x : ℕ). TableNotSorted x) (one_unsorted t p q a b)
cut_faults t ok total plan prices (TableNotSorted p) PlanEnds a b = absurd (unsorted_sorted t p a b.0)
cut_faults t ok total plan prices (TableNotSorted p) (PlanStep i j) a b = absurd (unsorted_sorted t p a b.0)
cut_faults t ok total plan prices (TableNotSorted p) PlanCost a b = absurd (unsorted_sorted t p a b.0)
cut_faults t ok total plan prices (TableNotSorted p) PriceStart a b = absurd (unsorted_sorted t p a b.0)
cut_faults t ok total plan prices (TableNotSorted p) (PriceStep i j) a b = absurd (unsorted_sorted t p a b.0)
cut_faults t ok total plan prices PlanEnds (TableNotSorted p) a b = absurd (unsorted_sorted t p b a.0)
cut_faults t ok total plan prices PlanEnds PlanEnds a b = refl
cut_faults t ok total plan prices PlanEnds (PlanStep i j) a b = absurd (a.1 b.1)
cut_faults t ok total plan prices PlanEnds PlanCost a b = absurd (a.1 (ends_from_plan t plan b.1))
cut_faults t ok total plan prices PlanEnds PriceStart a b = absurd (a.1 (ends_from_plan t plan b.1))
cut_faults t ok total plan prices PlanEnds (PriceStep i j) a b = absurd (a.1 (ends_from_plan t plan b.1))
cut_faults t ok total plan prices (PlanStep i j) (TableNotSorted p) a b = absurd (unsorted_sorted t p b a.0)
cut_faults t ok total plan prices (PlanStep i j) PlanEnds a b = absurd (b.1 a.1)
cut_faults t ok total plan prices (PlanStep p q) (PlanStep i j) a b =
    let one = a.2 in
    let other = b.2 in
    let same = one_at t plan p q i j one other in
    let from : p ≡ i = sym one.is_from ∙ rw same other.is_from in
    let to : q ≡ j = sym one.is_to ∙ rw same other.is_to in
    cc
cut_faults t ok total plan prices (PlanStep i j) PlanCost a b = absurd (bad_pair_plan t ok plan i j a.0 a.2 b.1)
cut_faults t ok total plan prices (PlanStep i j) PriceStart a b = absurd (bad_pair_plan t ok plan i j a.0 a.2 b.1)
cut_faults t ok total plan prices (PlanStep i j) (PriceStep p q) a b = absurd (bad_pair_plan t ok plan i j a.0 a.2 b.1)
cut_faults t ok total plan prices PlanCost (TableNotSorted p) a b = absurd (unsorted_sorted t p b a.0)
cut_faults t ok total plan prices PlanCost PlanEnds a b = absurd (b.1 (ends_from_plan t plan a.1))
cut_faults t ok total plan prices PlanCost (PlanStep i j) a b = absurd (bad_pair_plan t ok plan i j b.0 b.2 a.1)
cut_faults t ok total plan prices PlanCost PlanCost a b = refl
cut_faults t ok total plan prices PlanCost PriceStart a b = absurd (a.2 b.2)
cut_faults t ok total plan prices PlanCost (PriceStep i j) a b = absurd (a.2 b.2)
cut_faults t ok total plan prices PriceStart (TableNotSorted p) a b = absurd (unsorted_sorted t p b a.0)
cut_faults t ok total plan prices PriceStart PlanEnds a b = absurd (b.1 (ends_from_plan t plan a.1))
cut_faults t ok total plan prices PriceStart (PlanStep i j) a b = absurd (bad_pair_plan t ok plan i j b.0 b.2 a.1)
cut_faults t ok total plan prices PriceStart PlanCost a b = absurd (b.2 a.2)
cut_faults t ok total plan prices PriceStart PriceStart a b = refl
cut_faults t ok total plan prices PriceStart (PriceStep i j) a b = absurd (a.3 b.3)
cut_faults t ok total plan prices (PriceStep i j) (TableNotSorted p) a b = absurd (unsorted_sorted t p b a.0)
cut_faults t ok total plan prices (PriceStep i j) PlanEnds a b = absurd (b.1 (ends_from_plan t plan a.1))
cut_faults t ok total plan prices (PriceStep p q) (PlanStep i j) a b = absurd (bad_pair_plan t ok plan i j b.0 b.2 a.1)
cut_faults t ok total plan prices (PriceStep i j) PlanCost a b = absurd (b.2 a.2)
cut_faults t ok total plan prices (PriceStep i j) PriceStart a b = absurd (b.3 a.3)
cut_faults t ok total plan prices (PriceStep p q) (PriceStep i j) a b =
    let from : p ≡ i = one_row _ p q i j a.4 b.4 in
    let to : q ≡ j = one_place _ p q j a.4 (rw from b.4) in
    cc
cut_faults t ok total plan prices (Form x) other a b = absurd a
cut_faults t ok total plan prices EndReached other a b = absurd a
cut_faults t ok total plan prices Memory other a b = absurd a
cut_faults t ok total plan prices one (Form x) a b = absurd b
cut_faults t ok total plan prices one EndReached a b = absurd b
cut_faults t ok total plan prices one Memory a b = absurd b

-- two faults of one closed set are the same
none_faults : (t : Table) (closed : List Bool) (one other : CertFault) →
    NoneCheckResult t closed (Err one) → NoneCheckResult t closed (Err other) → one ≡ other
none_faults t closed (TableNotSorted p) (TableNotSorted q) a b = ap (λ (x : ℕ). TableNotSorted x) (one_unsorted t p q a b)
none_faults t closed (TableNotSorted p) PriceStart a b = absurd (unsorted_sorted t p a b.0)
none_faults t closed (TableNotSorted p) (PriceStep i j) a b = absurd (unsorted_sorted t p a b.0)
none_faults t closed (TableNotSorted p) EndReached a b = absurd (unsorted_sorted t p a b.0)
none_faults t closed PriceStart (TableNotSorted p) a b = absurd (unsorted_sorted t p b a.0)
none_faults t closed PriceStart PriceStart a b = refl
none_faults t closed PriceStart (PriceStep i j) a b = absurd (a.1 b.1)
none_faults t closed PriceStart EndReached a b = absurd (a.1 b.1)
none_faults t closed (PriceStep i j) (TableNotSorted p) a b = absurd (unsorted_sorted t p b a.0)
none_faults t closed (PriceStep i j) PriceStart a b = absurd (b.1 a.1)
none_faults t closed (PriceStep p q) (PriceStep i j) a b =
    let from : p ≡ i = one_row _ p q i j a.2 b.2 in
    let to : q ≡ j = one_place _ p q j a.2 (rw from b.2) in
    cc
none_faults t closed (PriceStep i j) EndReached a b = absurd (a.2.in_row.broken (b.2 i j))
none_faults t closed EndReached (TableNotSorted p) a b = absurd (unsorted_sorted t p b a.0)
none_faults t closed EndReached PriceStart a b = absurd (b.1 a.1)
none_faults t closed EndReached (PriceStep i j) a b = absurd (b.2.in_row.broken (a.2 i j))
none_faults t closed EndReached EndReached a b = refl
none_faults t closed (Form x) other a b = absurd a
none_faults t closed PlanEnds other a b = absurd a
none_faults t closed (PlanStep i j) other a b = absurd a
none_faults t closed PlanCost other a b = absurd a
none_faults t closed Memory other a b = absurd a
none_faults t closed one (Form x) a b = absurd b
none_faults t closed one PlanEnds a b = absurd b
none_faults t closed one (PlanStep i j) a b = absurd b
none_faults t closed one PlanCost a b = absurd b
none_faults t closed one Memory a b = absurd b

-- two results for one claim over a table are the same
one_over : (t : Table) → IsTable t → (shown : ClaimData) (one other : Result Verdict CertFault) →
    CheckResultOver t shown one → CheckResultOver t shown other → one ≡ other
one_over t ok (CutClaim total plan prices) (Ok (Cut x)) (Ok (Cut y)) a b =
    ap (λ (v : ℕ). Ok (Cut v)) (a.0 ∙ sym b.0)
one_over t ok (CutClaim total plan prices) (Ok (Cut x)) (Err fault) a b = absurd (cut_fault t ok total plan prices fault b a.1)
one_over t ok (CutClaim total plan prices) (Err fault) (Ok (Cut x)) a b = absurd (cut_fault t ok total plan prices fault a b.1)
one_over t ok (CutClaim total plan prices) (Err x) (Err y) a b =
    ap (λ (v : CertFault). Err v) (cut_faults t ok total plan prices x y a b)
one_over t ok (CutClaim total plan prices) (Ok NoCut) other a b = absurd a
one_over t ok (CutClaim total plan prices) one (Ok NoCut) a b = absurd b
one_over t ok (NoneClaim closed) (Ok NoCut) (Ok NoCut) a b = refl
one_over t ok (NoneClaim closed) (Ok NoCut) (Err fault) a b = absurd (none_fault t closed fault b a)
one_over t ok (NoneClaim closed) (Err fault) (Ok NoCut) a b = absurd (none_fault t closed fault a b)
one_over t ok (NoneClaim closed) (Err x) (Err y) a b = ap (λ (v : CertFault). Err v) (none_faults t closed x y a b)
one_over t ok (NoneClaim closed) (Ok (Cut x)) other a b = absurd a
one_over t ok (NoneClaim closed) one (Ok (Cut x)) a b = absurd b

-- two results for one certificate are the same
pub one_answer : (c : CertificateData) (one other : Result Verdict CertFault) → IsCertificate c →
    IsCheckResult c one → IsCheckResult c other → one ≡ other
one_answer c one other certificate a b = one_over c.table certificate.table c.shown one other a b
