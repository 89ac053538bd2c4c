-- Plans by the index of a place: their ends, their steps pair by pair, and their costs.
use Rattle.std.proofs.Common.{◌≡◌, ℕ, zero, suc, ◌+◌, ◌-◌, ◌<◌, ◌≤◌, List, [], ◌∷◌, length, get_or, take, arith, refl, subst}
use Rattle.hls_check_tables.specs.Tables.{Table, IsTable}
use Rattle.hls_check_tables.specs.Steps.{cost}
use Rattle.hls_check_tables.specs.Orders.{IsSorted}
use Rattle.hls_check_tables.specs.Plans.{StepsAreAllowed, last_place, cost_from, IsPlan, plan_cost, HasEnds}
use Rattle.hls_check_tables.proofs.Walks.{Allowed-rises}
use Rattle.hls_check.specs.Faults.{IsForwardStep, HasSteps}

-- the last place of a walk is the last one of its list
end_of-get_or : (p : ℕ) (rest : List ℕ) → last_place p rest ≡ get_or (p ∷ rest) (length rest) 0
end_of-get_or p [] = refl
end_of-get_or p (q ∷ rest) = end_of-get_or q rest

-- a plan that isn't empty, begins with place 0 and ends with the table's last place has its ends
pub ends_from_places : (t : Table) (plan : List ℕ) → 0 < length plan → get_or plan 0 0 ≡ 0 →
    get_or plan (length plan - 1) 0 ≡ length t.places - 1 → HasEnds t plan
ends_from_places t [] some first last = absurd (omega arith)
ends_from_places t (p ∷ rest) some first last =
    let same : length (p ∷ rest) - 1 ≡ length rest = omega arith in
    let P : ℕ → Type 0 = λ k. get_or (p ∷ rest) k 0 ≡ length t.places - 1 in
    let last_rest = subst P same last in
    (first, omega (arith, end_of-get_or p rest, last_rest))

-- a plan that has its ends begins with place 0
pub first_from_ends : (t : Table) (plan : List ℕ) → HasEnds t plan → get_or plan 0 0 ≡ 0
first_from_ends t [] ends = absurd ends
first_from_ends t (p ∷ rest) ends = ends.0

-- a plan that has its ends ends with the table's last place
pub last_from_ends : (t : Table) (plan : List ℕ) → HasEnds t plan →
    get_or plan (length plan - 1) 0 ≡ length t.places - 1
last_from_ends t [] ends = absurd ends
last_from_ends t (p ∷ rest) ends =
    let same : length rest ≡ length (p ∷ rest) - 1 = omega arith in
    let P : ℕ → Type 0 = λ k. get_or (p ∷ rest) k 0 ≡ length t.places - 1 in
    subst P same (omega (arith, end_of-get_or p rest, ends.1))

-- if each pair of a list of places is an allowed step forward, the list's steps are allowed
leads_from_steps : (t : Table) (p : ℕ) (rest : List ℕ) →
    ((k : ℕ) → k < length rest → IsForwardStep t (get_or (p ∷ rest) k 0) (get_or rest k 0)) → StepsAreAllowed t p rest
leads_from_steps t p [] steps = tt
leads_from_steps t p (q ∷ rest) steps =
    ((steps 0 (omega arith)).allowed, leads_from_steps t q rest (λ k h. steps (suc k) (omega arith)))

-- a list of places that has its ends and whose pairs are allowed steps forward is a plan
pub plan_from_parts : (t : Table) (plan : List ℕ) → HasEnds t plan → HasSteps t plan → IsPlan t plan
plan_from_parts t [] ends steps = ends
plan_from_parts t (p ∷ rest) ends steps =
    let Q : ℕ → ℕ → Type 0 = λ k j. IsForwardStep t (get_or (p ∷ rest) k 0) (get_or (p ∷ rest) j 0) in
    let pairs : (k : ℕ) → k < length rest → Q k (suc k) =
    λ k h.
    let same : k + 1 ≡ suc k = omega arith in
    subst (λ (j : ℕ). Q k j) same (steps k (omega arith)) in
    (ends.0, ends.1, leads_from_steps t p rest pairs)

-- a plan has its ends
pub ends_from_plan : (t : Table) (plan : List ℕ) → IsPlan t plan → HasEnds t plan
ends_from_plan t [] is_plan = is_plan
ends_from_plan t (p ∷ rest) is_plan = (is_plan.0, is_plan.1)

-- over a sorted table, each allowed step of a list of places leads forward
steps_from_leads : (t : Table) → IsTable t → IsSorted t → (p : ℕ) (rest : List ℕ) → StepsAreAllowed t p rest →
    (k : ℕ) → k < length rest → IsForwardStep t (get_or (p ∷ rest) k 0) (get_or rest k 0)
steps_from_leads t ok sorted p [] leads k h = absurd (omega arith)
steps_from_leads t ok sorted p (q ∷ rest) leads zero h =
    record { rises = Allowed-rises t ok sorted p q leads.0; allowed = leads.0 }
steps_from_leads t ok sorted p (q ∷ rest) leads (suc k) h =
    steps_from_leads t ok sorted q rest leads.1 k (omega arith)

-- over a sorted table, each pair of a plan is an allowed step forward
pub steps_from_plan : (t : Table) → IsTable t → IsSorted t → (plan : List ℕ) → IsPlan t plan → HasSteps t plan
steps_from_plan t ok sorted [] is_plan k h = absurd is_plan
steps_from_plan t ok sorted (p ∷ rest) is_plan k h =
    let same : suc k ≡ k + 1 = omega arith in
    let Q : ℕ → Type 0 = λ j. IsForwardStep t (get_or (p ∷ rest) k 0) (get_or (p ∷ rest) j 0) in
    subst Q same (steps_from_leads t ok sorted p rest is_plan.2 k (omega arith))

-- one more place adds its step's cost to a walk's cost
cost_from-take : (t : Table) (p : ℕ) (rest : List ℕ) (k : ℕ) → k < length rest →
    cost_from t p (take (suc k) rest) ≡ cost_from t p (take k rest) + cost t (get_or (p ∷ rest) k 0) (get_or rest k 0)
cost_from-take t p [] k h = absurd (omega arith)
cost_from-take t p (q ∷ rest) zero h = omega arith
cost_from-take t p (q ∷ rest) (suc k) h = omega (arith, cost_from-take t q rest k (omega arith))

-- the first k + 1 places of a plan cost the step to the last of them more than the first k
pub plan_cost-take : (t : Table) (plan : List ℕ) (k : ℕ) → 1 ≤ k → k < length plan →
    plan_cost t (take (k + 1) plan) ≡ plan_cost t (take k plan) + cost t (get_or plan (k - 1) 0) (get_or plan k 0)
plan_cost-take t [] k low h = absurd (omega arith)
plan_cost-take t (p ∷ rest) zero low h = absurd (omega arith)
plan_cost-take t (p ∷ rest) (suc k) low h =
    let more : suc k + 1 ≡ suc (suc k) = omega arith in
    let less : suc k - 1 ≡ k = omega arith in
    let P : ℕ → ℕ → Type 0 = λ m n.
    plan_cost t (take m (p ∷ rest)) ≡
    plan_cost t (take (suc k) (p ∷ rest)) + cost t (get_or (p ∷ rest) n 0) (get_or rest k 0) in
    rw (more, less) (cost_from-take t p rest k (omega arith))
