-- Plans that are inserted, and what callers learn of a table of plans that a lock protects.
use Rattle.std.proofs.Common.{◌≡◌, ◌⊎◌, ℕ, zero, suc, ◌<◌, ◌≤◌, List, [], ◌∷◌, ◌++◌, length, take, drop, Some, IfOk, Result, Ok, Err, Vec, Global, ap, arith, inl, inr, refl}
use Rattle.std.specs.Prelude.{slice_get}
use Rattle.hls_catchup.specs.declared.request.Request.{Request}
use Rattle.hls_core_laws.specs.State.{State}
use Rattle.hls_jobs.specs.Plans.{HasAddedPlan, HasFoundPlan, HasPlannedFrom, IsFoundPlan}
use Rattle.hls_jobs.specs.PlanTurns.{AddsPlan, IsRefused}
use Rattle.hls_jobs.specs.declared.plans.FoundPlan.{FoundPlan}
use Rattle.hls_jobs.specs.declared.plans.FoundPlan.TheVariants.{Missing}
use Rattle.hls_jobs.specs.declared.plans.PlanRow.{PlanRow}

-- what is found for a request among these plans is what some table had for it
pub found_plan : {E : Type 0} (plans : List PlanRow) (request : Request) (result : Result FoundPlan E) → IfOk result (IsFoundPlan plans request) → IfOk result (HasFoundPlan request)
found_plan plans request (Ok found) is = record { plans = plans; is = is }
found_plan plans request (Err e) is = is

-- what is found among these plans after adding one is what some table had; it is missing only if it isn't the client's turn
pub added_plan : {E : Type 0} (plans : List PlanRow) (request : Request) (client : ℕ) (result : Result FoundPlan E) → IfOk result (IsFoundPlan plans request)
    → (result ≡ Ok Missing → IsRefused client plans) → IfOk result (HasAddedPlan request client)
added_plan plans request client (Ok found) is full = record { plans = plans; is = is; full = λ same. full (ap Ok same) }
added_plan plans request client (Err e) is full = is

-- what is found among plans after adding one to others is what some table had after the call, and the other one before
pub planned_from : {E : Type 0} (before after : Vec PlanRow Global) (s : State) (request : Request) (client : ℕ) (result : Result FoundPlan E) → IfOk result (IsFoundPlan after.items request)
    → IfOk result (λ found. (after ≡ before) ⊎ AddsPlan s request client before.items found after.items) → IfOk result (HasPlannedFrom s request client)
planned_from before after s request client (Ok found) is (inl same) =
    record { before = before.items; after = after.items; is = is; adds = inl (ap (λ (plans : Vec PlanRow Global). plans.items) same) }
planned_from before after s request client (Ok found) is (inr adds) = record { before = before.items; after = after.items; is = is; adds = inr adds }
planned_from before after s request client (Err e) is adds = is

-- an element that is inserted at an index is there
pub inserted_there : {X : Type 0} (xs : List X) (i : ℕ) (x : X) → i ≤ length xs → (i < length (take i xs ++ x ∷ drop i xs)) × (slice_get (take i xs ++ x ∷ drop i xs) i ≡ Some x)
inserted_there xs zero x few = (omega arith, refl)
inserted_there [] (suc i) x few = absurd (omega (arith, few))
inserted_there (y ∷ ys) (suc i) x few = let rest = inserted_there ys i x (omega (arith, few)) in (omega (arith, rest.0), rest.1)
