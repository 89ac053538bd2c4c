-- For the proofs of this crate; no public clause cites it.
-- Responses that wait for a job to be finished, or for a programme to be planned.
use Rattle.hls_api.specs.declared.route.ServedChannel.{ServedChannel}
use Rattle.std.specs.Prelude.{◌≡◌, ◌⊎◌, ◌≤◌, ℕ, ◌+◌, ◌*◌, ◌-◌, ◌^◌, min, nat_lt, Bool, true, false, cond, ◌&&◌, List, ◌++◌, Option, Some, None, Ok, IfOk, IsTrue}
use Rattle.httparse.specs.Grammar.{RequestHead}
use Rattle.hls_http.specs.declared.method.Method.{Method}
use Rattle.hls_jobs.specs.Plans.{HasFoundPlan}
use Rattle.hls_api.specs.Programmes.{ShowsFound}
use Rattle.hls_api.specs.Exchanges.{DueResponse, IsDue, IsJobResponse, RequestParams, continue_prefix, due_for_memory, params_of, request_of, shown_if}
use Rattle.hls_api.specs.{declared.route.Route.Route, JobTable.IsGetResult, Responses.ResponseData, Routes.allows}
use Rattle.hls_connection.specs.{declared.state.Transition.Transition, declared.state.WaitingResponse.WaitingResponse, declared.state.ConnectionState.ConnectionState, RequestContexts.IsContextOf}
use Rattle.hls_connection.specs.{declared.state.Awaited.Awaited, declared.wait.Found.Found, declared.wait.PlanWait.PlanWait}
use Rattle.hls_catchup.specs.declared.jobs.job.Job.TheVariants as jobs
use Rattle.hls_jobs.specs.declared.plans.FoundPlan.TheVariants as plans
use Rattle.hls_connection.specs.declared.state.Awaited.TheVariants as awaits
use Rattle.hls_connection.specs.declared.wait.Found.TheVariants as founds
use Rattle.hls_http.specs.declared.method.Method.TheVariants as methods
use Rattle.hls_api.specs.declared.route.Route.TheVariants as routes
use Rattle.hls_connection.specs.declared.state.ConnectionState.TheVariants as states

-- ---- how long

-- whether the response to this method may wait: that to GET and HEAD may
abbrev pub may_wait : Method → Bool
may_wait methods.Get = true
may_wait methods.Head = true
may_wait method = false

-- until when a response may wait: `seconds` from now, at most 30, in milliseconds of one clock
abbrev pub deadline_after : ℕ → ℕ → ℕ
deadline_after now seconds = min (now + min seconds 30 * 1000) (2 ^ 64 - 1)

-- until when a response waits, if its head asks for that and the time is known
abbrev pub deadline_by : Method → Option ℕ → Option ℕ → Option ℕ
deadline_by method (Some seconds) (Some now) = cond (may_wait method) (Some (deadline_after now seconds)) None
deadline_by method seconds now = None

-- the job for which the response to a route waits, and until when
abbrev pub awaited_by : Route → Option ℕ → Option (ℕ × ℕ)
awaited_by (routes.Job id) (Some deadline) = Some (id, deadline)
awaited_by route deadline = None

-- until when the response for a programme may wait for its plan: `wait_ms` milliseconds, at most 30 seconds
abbrev pub plan_deadline_after : ℕ → ℕ → ℕ
plan_deadline_after now wait_ms = min (now + min wait_ms 30000) (2 ^ 64 - 1)

-- the wait for the plan of a programme: its address and its deadline, for GET and HEAD if the time is known
abbrev pub plan_wait_by : Route → Method → Option ℕ → ℕ → Option PlanWait
plan_wait_by (routes.Programme start stop file) method (Some now) wait_ms =
    cond (may_wait method) (Some (record { start = start; stop = stop; file = file; deadline_ms = plan_deadline_after now wait_ms })) None
plan_wait_by route method now wait_ms = None

-- the time is known, and the deadline is ahead
abbrev pub has_time : Option ℕ → ℕ → Bool
has_time (Some now) deadline = nat_lt now deadline
has_time None deadline = false

-- ---- for what

-- a job that waits for a planner or runs, or a plan that is unfinished
abbrev pub is_unfinished : Found → Bool
is_unfinished (founds.Job (Ok jobs.Waiting)) = true
is_unfinished (founds.Job (Ok jobs.Running)) = true
is_unfinished (founds.Plan (Ok plans.Unfinished)) = true
is_unfinished found = false

-- the table returned this for the job or the plan that is awaited
abbrev pub IsFound : Awaited → Found → Type 0
IsFound (awaits.Job id) (founds.Job found) = IsGetResult id found
IsFound (awaits.Plan plan) (founds.Plan found) = IfOk found (HasFoundPlan plan.request)
IsFound awaited found = ⊥

-- the route of the request whose response waits
abbrev pub awaited_route : Awaited → Route
awaited_route (awaits.Job id) = routes.Job id
awaited_route (awaits.Plan plan) = routes.Programme plan.start plan.stop plan.file

-- ---- the answer

-- the answer shows the job or the plan as it was found
abbrev pub ShowsAwaited : Awaited → RequestParams → Found → ResponseData → Type 0
ShowsAwaited (awaits.Job id) q (founds.Job found) answer = IsJobResponse found (shown_if q (routes.Job id) (allows (routes.Job id) q.method)) answer
ShowsAwaited (awaits.Plan plan) q (founds.Plan (Ok found)) answer = ShowsFound plan.file found answer
ShowsAwaited awaited q found answer = ⊥

-- the reply that is due shows the job or the plan as it was found, or is the out-of-memory reply
abbrev pub IsAwaitedDue : ServedChannel → RequestHead → Awaited → Found → DueResponse → Type 0
IsAwaitedDue channel h awaited found due =
    ((answer : ResponseData) × ShowsAwaited awaited (params_of channel h) found answer × IsDue h (request_of channel h).action answer false due)
    ⊎ (due ≡ due_for_memory h (request_of channel h).action)

-- what is sent is the reply that shows what was found, without 100 Continue if that was sent before
abbrev pub IsAnswered : WaitingResponse → Found → List ℕ → Type 0
IsAnswered w found output =
    (channel : ServedChannel) (h : RequestHead) → IsContextOf channel h w.context
    → (due : DueResponse) × IsAwaitedDue channel h w.awaited found due × (due.text ≡ continue_prefix h (request_of channel h).action ++ output)

-- the response still waits, or a step answers it
abbrev pub AnswersWith : WaitingResponse → Found → Bool → Option Transition → Type 0
AnswersWith w found true step = step ≡ None
AnswersWith w found false None = ⊥
AnswersWith w found false (Some step) = IsAnswered w found step.output

-- The job or the plan was looked up: while it is unfinished and the deadline is ahead, the response still waits;
-- else a step answers with what was found.
pub record AnswersWait (now : Option ℕ) (w : WaitingResponse) (step : Option Transition) : Type 0 where
  pub found : Found
  pub gets : IsFound w.awaited found
  pub answers : AnswersWith w found (has_time now w.deadline_ms && is_unfinished found) step

-- the connection still waits, or what is pending is the answer
abbrev pub StaysOrAnswers : WaitingResponse → Found → Bool → ConnectionState → List ℕ → Type 0
StaysOrAnswers w found true new pending = new ≡ states.Wait w
StaysOrAnswers w found false new pending = IsAnswered w found pending

-- .. if a response waited in the old state
abbrev pub AnswersDue : Option ℕ → ConnectionState → ConnectionState → List ℕ → Type 0
AnswersDue now (states.Wait w) new pending =
    (found : Found) × IsFound w.awaited found × StaysOrAnswers w found (has_time now w.deadline_ms && is_unfinished found) new pending
AnswersDue now state new pending = Unit {0}

-- ---- a connection's wait

-- whether a response waits in this state
abbrev pub waits_in : ConnectionState → Bool
waits_in (states.Wait w) = true
waits_in state = false

-- the deadline of the response that waits in this state, if one does
abbrev pub deadline_in : ConnectionState → Option ℕ
deadline_in (states.Wait w) = Some w.deadline_ms
deadline_in state = None

-- there is a deadline, and it is ahead
abbrev pub IsAhead : Option ℕ → Option ℕ → Type 0
IsAhead now (Some deadline) = IsTrue (has_time now deadline)
IsAhead now None = ⊥

-- a response that still waits keeps its deadline, and one that begins to wait has at most 30 seconds
abbrev pub IsDeadline : Option ℕ → Option ℕ → Option ℕ → Type 0
IsDeadline now old None = Unit {0}
IsDeadline now (Some deadline) (Some d) = d ≡ deadline
IsDeadline (Some now) None (Some d) = d ≤ now + 30000
IsDeadline None None (Some d) = ⊥
