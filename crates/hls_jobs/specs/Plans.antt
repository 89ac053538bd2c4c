-- What is known of the plans of programmes by address: each waits for a planner, runs, or has its texts.
use Rattle.std.specs.Prelude.{◌≡◌, ◌≢◌, ◌⊎◌, ◌<◌, ℕ, ◌+◌, All, Bool, true, false, List, ◌++◌, length, take, drop, Option, Some, None, slice_get, slice_set}
use Rattle.hls_catchup.specs.declared.jobs.job.Work.{Work}
use Rattle.hls_catchup.specs.declared.request.Request.{Request}
use Rattle.hls_core_laws.specs.State.{State}
use Rattle.hls_jobs.specs.PlanTurns.{AddsPlan, IsRefused}
use Rattle.hls_jobs.specs.ProgrammeTexts.{IsReplyFor}
use Rattle.hls_jobs.specs.declared.plans.FoundPlan.{FoundPlan}
use Rattle.hls_jobs.specs.declared.plans.FoundPlan.TheVariants.{Ready, Unfinished, Missing}
use Rattle.hls_jobs.specs.declared.plans.PlanRow.{PlanRow}
use Rattle.hls_jobs.specs.declared.plans.PlanWork.{PlanWork}
use Rattle.hls_jobs.specs.declared.plans.PlanRow.TheVariants as rows
use Rattle.hls_jobs.specs.declared.shared.NextWork.{NextWork}
use Rattle.hls_jobs.specs.declared.shared.NextWork.TheVariants as next

-- the request of a plan
abbrev pub planned_request : PlanRow → Request
planned_request (rows.Waiting snapshot request client) = request
planned_request (rows.Running request) = request

-- whether a plan waits for a planner
abbrev pub is_waiting_plan : PlanRow → Bool
is_waiting_plan (rows.Waiting snapshot request client) = true
is_waiting_plan (rows.Running request) = false

-- the first plan that waits is at this index
pub record WaitsAsPlan (plans : List PlanRow) (at : ℕ) : Type 0 where
  pub row : PlanRow
  pub within : at < length plans
  pub there : slice_get plans at ≡ Some row
  pub waits : is_waiting_plan row ≡ true
  pub first : All (λ row. is_waiting_plan row ≡ false) (take at plans)

-- the work is that of a plan that waits
abbrev pub IsRowOfWork : PlanRow → PlanWork → Type 0
IsRowOfWork (rows.Waiting snapshot request client) work = (work.snapshot ≡ snapshot) × (work.request ≡ request)
IsRowOfWork (rows.Running request) work = ⊥

-- the work is the first plan that waits; it runs from then on, and no other plan changes
pub record IsWaitingPlan (plans : List PlanRow) (work : PlanWork) (after : List PlanRow) : Type 0 where
  pub at : ℕ
  pub row : PlanRow
  pub there : slice_get plans at ≡ Some row
  pub is : IsRowOfWork row work
  pub first : All (λ row. is_waiting_plan row ≡ false) (take at plans)
  pub runs : after ≡ slice_set plans at (rows.Running work.request)

-- the plan at this index, which waits or runs, is for the request
pub record IsPlanAt (request : Request) (plans : List PlanRow) (at : ℕ) : Type 0 where
  pub row : PlanRow
  pub within : at < length plans
  pub there : slice_get plans at ≡ Some row
  pub request_is : planned_request row ≡ request

-- a plan for the request waits or runs
abbrev pub HasPlan : Request → List PlanRow → Type 0
HasPlan request plans = (at : ℕ) × IsPlanAt request plans at

-- no plan is for the request
abbrev pub HasNoPlan : Request → List PlanRow → Type 0
HasNoPlan request plans = All (λ row. planned_request row ≢ request) plans

-- the plan for the request is removed, if there is one, and no other plan changes
pub record IsRemovedPlan (request : Request) (before after : List PlanRow) : Type 0 where
  pub at : ℕ
  pub is : IsPlanAt request before at
  pub removed : after ≡ take at before ++ drop (at + 1) before

-- a plan ends
abbrev pub EndsPlan : Request → List PlanRow → List PlanRow → Type 0
EndsPlan request before after = (HasNoPlan request before × (after ≡ before)) ⊎ IsRemovedPlan request before after

-- what a table with these plans has for a request: the texts of a right reply, a plan that isn't finished, or neither
abbrev pub IsFoundPlan : List PlanRow → Request → FoundPlan → Type 0
IsFoundPlan plans request (Ready texts) = IsReplyFor request texts.value
IsFoundPlan plans request Unfinished = HasPlan request plans
IsFoundPlan plans request Missing = HasNoPlan request plans

-- some table had this for the request
pub record HasFoundPlan (request : Request) (found : FoundPlan) : Type 0 where
  pub plans : List PlanRow
  pub is : IsFoundPlan plans request found

-- some table had this for the request, after it was added for the client if there was neither a plan nor texts: it isn't added if it isn't
-- the client's turn
pub record HasAddedPlan (request : Request) (client : ℕ) (found : FoundPlan) : Type 0 where
  pub plans : List PlanRow
  pub is : IsFoundPlan plans request found
  pub full : found ≡ Missing → IsRefused client plans

-- the call met some table and left another one, which has this for the request: they are the same, or a plan from this state was to be added for
-- the client, in its next turn
pub record HasPlannedFrom (s : State) (request : Request) (client : ℕ) (found : FoundPlan) : Type 0 where
  pub before : List PlanRow
  pub after : List PlanRow
  pub is : IsFoundPlan after request found
  pub adds : (after ≡ before) ⊎ AddsPlan s request client before found after

-- the job among what is to be done next
abbrev pub job_in : Option NextWork → Option Work
job_in None = None
job_in (Some (next.Job work)) = Some work
job_in (Some (next.Plan work)) = None
