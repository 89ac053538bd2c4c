-- A plan of the first turn comes after at most one plan of each client, and an eviction leaves each client that has a plan one of them.
use Rattle.std.proofs.Common.{◌≡◌, ℕ, zero, suc, ◌+◌, ◌<◌, ◌≤◌, Bool, List, [], ◌∷◌, ◌++◌, length, take, drop, Some, append-nil, append_assoc, arith, ap, inl, inr, subst, sym}
use Rattle.std.specs.Prelude.{cond, slice_get}
use Rattle.std.proofs.lemmas.Bool.{cases_Bool, eqb-true}
use Rattle.std.proofs.lemmas.List.Sums.{sum_by-append, sum_by-cons}
use Rattle.hls_jobs.specs.PlanTurns.{FirstTurnsAreFair, count_waiting, turn_after, waits_for}
use Rattle.hls_jobs.specs.declared.plans.PlanRow.{PlanRow}
use Rattle.hls_jobs.specs.declared.plans.PlanRow.TheVariants as rows

-- a plan counts for its own client while it waits
one-more : (client : ℕ) (before : List PlanRow) (row : PlanRow) → count_waiting client (before ++ row ∷ []) ≡ count_waiting client before + cond (waits_for client row) 1 0
one-more client before row =
    let sum = sum_by-append (λ (r : PlanRow). cond (waits_for client r) 1 0) before (row ∷ []) in
    omega (arith, sum)

-- if a plan is of the first turn at most, at most one of each client waits with it
with-one : (client : ℕ) (before : List PlanRow) (row : PlanRow) → turn_after before (Some row) ≤ 1 → count_waiting client before ≤ 1 → count_waiting client (before ++ row ∷ []) ≤ 1
with-one client before (rows.Running request) first few = let more = one-more client before (rows.Running request) in omega (arith, more, few)
with-one client before (rows.Waiting snapshot request own) first few =
    let row : PlanRow = rows.Waiting snapshot request own in
    let more = one-more client before row in
    elim (cases_Bool (waits_for client row)) [
      | inl is ↦
          let same : own ≡ client = eqb-true own client is in
          let none = ap (λ (c : ℕ). count_waiting c before) same in
          let one = ap {B = ℕ} (λ (b : Bool). cond b 1 0) is in
          omega (arith, more, first, none, one)
      | inr isnt ↦ (let none = ap {B = ℕ} (λ (b : Bool). cond b 1 0) isnt in omega (arith, more, few, none))
    ]

-- .. and so on along plans of the first turn at most
along : (client : ℕ) (before rest : List PlanRow) (n : ℕ) → n ≤ length rest → ((k : ℕ) → k < n → turn_after (before ++ take k rest) (slice_get rest k) ≤ 1)
    → count_waiting client before ≤ 1 → count_waiting client (before ++ take n rest) ≤ 1
along client before rest zero within turns few = subst (λ (rs : List PlanRow). count_waiting client rs ≤ 1) (sym (append-nil before)) few
along client before [] (suc n) within turns few = absurd (omega (arith, within))
along client before (row ∷ rest) (suc n) within turns few =
    let here : turn_after before (Some row) ≤ 1 = subst (λ (rs : List PlanRow). turn_after rs (Some row) ≤ 1) (append-nil before) (turns 0 (omega arith)) in
    subst (λ (rs : List PlanRow). count_waiting client rs ≤ 1) (append_assoc before (row ∷ []) (take n rest))
    (along client (before ++ row ∷ []) rest n (omega (arith, within))
    (λ k less. subst (λ (rs : List PlanRow). turn_after rs (slice_get rest k) ≤ 1) (sym (append_assoc before (row ∷ []) (take k rest))) (turns (suc k) (omega (arith, less))))
    (with-one client before row here few))

-- if a plan after earlier ones is of a later turn than the first, its client has another one before it
without-one : (client : ℕ) (before : List PlanRow) (row : PlanRow) (rest : List PlanRow) → 1 < turn_after before (Some row) → 1 ≤ count_waiting client (before ++ row ∷ rest)
    → 1 ≤ count_waiting client (before ++ rest)
without-one client before (rows.Running request) rest late has = absurd (omega (arith, late))
without-one client before (rows.Waiting snapshot request own) rest late has =
    let row : PlanRow = rows.Waiting snapshot request own in
    let sum = sum_by-append (λ (r : PlanRow). cond (waits_for client r) 1 0) before (row ∷ rest) in
    let own_one = sum_by-cons (λ (r : PlanRow). cond (waits_for client r) 1 0) row rest in
    let kept = sum_by-append (λ (r : PlanRow). cond (waits_for client r) 1 0) before rest in
    elim (cases_Bool (waits_for client row)) [
      | inl is ↦
          let same : own ≡ client = eqb-true own client is in
          let there = ap (λ (c : ℕ). count_waiting c before) same in
          omega (arith, kept, late, there)
      | inr isnt ↦ (let none = ap {B = ℕ} (λ (b : Bool). cond b 1 0) isnt in omega (arith, sum, own_one, kept, has, none))
    ]

-- .. wherever it is
without : (client : ℕ) (before rest : List PlanRow) (at : ℕ) → at < length rest → 1 < turn_after (before ++ take at rest) (slice_get rest at)
    → 1 ≤ count_waiting client (before ++ rest) → 1 ≤ count_waiting client (before ++ (take at rest ++ drop (suc at) rest))
without client before [] at within late has = absurd (omega (arith, within))
without client before (row ∷ rest) zero within late has =
    without-one client before row rest (subst (λ (rs : List PlanRow). 1 < turn_after rs (Some row)) (append-nil before) late) has
without client before (row ∷ rest) (suc at) within late has =
    subst (λ (rs : List PlanRow). 1 ≤ count_waiting client rs) (append_assoc before (row ∷ []) (take at rest ++ drop (suc at) rest))
    (without client (before ++ row ∷ []) rest at (omega (arith, within))
    (subst (λ (rs : List PlanRow). 1 < turn_after rs (slice_get rest at)) (sym (append_assoc before (row ∷ []) (take at rest))) late)
    (subst (λ (rs : List PlanRow). 1 ≤ count_waiting client rs) (sym (append_assoc before (row ∷ []) rest)) has))

pub first-fair : FirstTurnsAreFair
first-fair = (
  λ plans at client turn. along client [] plans at turn.within (λ k less. turn.earlier k less) (omega arith),
  λ before after turn client first evicted has.
      let next : suc evicted.at ≡ evicted.at + 1 = omega arith in
      subst (λ (rs : List PlanRow). 1 ≤ count_waiting client rs) (sym evicted.removed)
      (subst (λ (n : ℕ). 1 ≤ count_waiting client (take evicted.at before ++ drop n before)) next
      (without client [] before evicted.at evicted.is.within (omega (arith, first, evicted.later)) has)),
)
