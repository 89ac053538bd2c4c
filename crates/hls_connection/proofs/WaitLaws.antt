-- Responses that wait for a job or a plan: what is due for it as it was found.
use Rattle.hls_api.specs.declared.route.ServedChannel.{ServedChannel}
use Rattle.std.proofs.Common.{◌≡◌, ◌≢◌, ℕ, ◌<◌, ◌≤◌, ◌*◌, ◌+◌, ◌-◌, ◌^◌, ◌&&◌, Bool, true, false, cond, List, [], length, Option, Some, None, IsTrue, IsFalse, Result, Ok, Err, IfOk, inl, inr, refl, sym, ap, subst, arith}
use Rattle.std.{specs.{Prelude.min, Option.is_some}, proofs.Math.Nat.{min-le_left, min-le_right}}
use Rattle.httparse.specs.Grammar.{RequestHead}
use Rattle.hls_http.specs.{declared.method.Method.Method, Actions.sends_close}
use Rattle.hls_api.specs.{Acts.{Act, ActsChangeNothing}, Queries.programme_query_in, Responses.ResponseData, Routes.{allows, query_of, removes_job}}
use Rattle.hls_api.specs.Exchanges.{DueResponse, IsJobResponse, RequestParams, continue_prefix, params_of, request_of, shown_if, to_head}
use Rattle.hls_api.specs.declared.route.Route.{Route}
use Rattle.hls_catchup.specs.declared.{fault.JobFault.JobFault, jobs.job.Job.Job}
use Rattle.hls_connection.specs.{declared.state.ConnectionState.ConnectionState, declared.state.Transition.Transition, declared.state.WaitingResponse.WaitingResponse}
use Rattle.hls_connection.specs.Traces.{ConnectionTrace, KeepsWaits, TraceWaits, trace_after_step}
use Rattle.hls_connection.specs.Waits.{AnswersDue, AnswersWait, AnswersWith, IsAhead, IsAnswered, IsAwaitedDue, IsDeadline, IsFound, ShowsAwaited, StaysOrAnswers, awaited_by, awaited_route, deadline_after, deadline_by, deadline_in, has_time, is_unfinished, may_wait, plan_deadline_after, plan_wait_by, waits_in}
use Rattle.hls_connection.specs.{RequestContexts.{ForContext, IsContextOf, IsDueFor, IsMadeResponse, IsResponse}, States.RespondsWith}
use Rattle.hls_connection.specs.{WithinBody.{IsAsked, client_of}, declared.state.Awaited.Awaited, declared.wait.Found.Found, declared.wait.PlanWait.PlanWait}
use Rattle.hls_connection.proofs.PlayerLaws.{plan_lost, plan_shown, programme_response}
use Rattle.hls_connection.specs.declared.state.Awaited.TheVariants as awaits
use Rattle.hls_connection.specs.declared.wait.Found.TheVariants as founds
use Rattle.hls_http.specs.declared.method.Method.TheVariants as methods
use Rattle.hls_api.specs.declared.route.Route.TheVariants as routes
use Rattle.hls_connection.specs.declared.state.ConnectionState.TheVariants as states

-- a method whose response may wait removes no job
not_removed : (id : ℕ) (method : Method) → may_wait method ≡ true → removes_job (routes.Job id) method ≡ false
not_removed id methods.Get is = refl
not_removed id methods.Head is = refl
not_removed id method is = absurd (cc is)

-- a response that shows the job as it was found shows what is awaited
pub job_shown : {E : Type 0} (awaited : Awaited) (found : Found) (id : ℕ) (job : Result Job JobFault) (q : RequestParams) (response : Result ResponseData E) → awaited ≡ awaits.Job id → found ≡ founds.Job job
    → IfOk response (IsJobResponse job (shown_if q (routes.Job id) (allows (routes.Job id) q.method))) → IfOk response (ShowsAwaited awaited q found)
job_shown awaited found id job q (Ok a) waits is shows =
    subst (λ (w : Awaited). ShowsAwaited w q found a) (sym waits) (subst (λ (f : Found). ShowsAwaited (awaits.Job id) q f a) (sym is) shows)
job_shown awaited found id job q (Err e) waits is shows = shows

-- what is due for a response that shows what is awaited, or for the failure to make it, is due for what is awaited
shown_due : {E : Type 0} (channel : ServedChannel) (h : RequestHead) (awaited : Awaited) (found : Found) (response : Result ResponseData E) (due : DueResponse)
    → IfOk response (ShowsAwaited awaited (params_of channel h) found)
    → IsDueFor (continue_prefix h (request_of channel h).action) response (sends_close h false) (to_head h) due → IsAwaitedDue channel h awaited found due
shown_due channel h awaited found (Ok a) due shows is = inl (a, shows, is)
shown_due channel h awaited found (Err e) due shows is = inr is

-- a step that sends the response made of what was found answers the waiting request
pub answered : {E : Type 0} (w : WaitingResponse) (found : Found) (response : Result ResponseData E) (step : Transition)
    → ForContext w.context (λ h q. IfOk response (ShowsAwaited w.awaited q found))
    → ((channel : ServedChannel) (h : RequestHead) (first : List ℕ) → IsContextOf channel h w.context → RespondsWith (IsDueFor first response (sends_close h false) (to_head h)) first w.acts step)
    → IsAnswered w found step.output
answered w found response step shows responds = λ channel h context.
    let r = responds channel h (continue_prefix h (request_of channel h).action) context in
    (r.due, shown_due channel h w.awaited found response r.due (shows channel h context) r.is, r.text_is)

-- the answer that shows what was found is the response to the request that waited
waiting_answer : (channel : ServedChannel) (h : RequestHead) (awaited : Awaited) (found : Found) (acts : List Act) (answer : ResponseData) → may_wait (params_of channel h).method ≡ true → IsAsked h awaited acts
    → IsFound awaited found → ShowsAwaited awaited (params_of channel h) found answer → IsResponse (params_of channel h) (awaited_route awaited) [] acts answer
waiting_answer channel h (awaits.Job id) (founds.Job found) acts a waits asked gets shows = rw (not_removed id (params_of channel h).method waits) (asked.1, (found, gets, shows))
waiting_answer channel h (awaits.Plan plan) (founds.Plan (Ok found)) acts a waits asked gets shows =
    let said = programme_query_in plan.start plan.stop (query_of h.target) in
    programme_response (params_of channel h) plan.start plan.stop plan.file [] acts a waits (plan_shown (client_of h) said plan.file [] acts plan.request found a asked gets shows)
waiting_answer channel h (awaits.Job id) (founds.Plan found) acts a waits asked gets shows = absurd gets
waiting_answer channel h (awaits.Plan plan) (founds.Job found) acts a waits asked gets shows = absurd gets
waiting_answer channel h (awaits.Plan plan) (founds.Plan (Err e)) acts a waits asked gets shows = absurd shows

-- a request whose response waits has changed nothing
waiting_lost : (h : RequestHead) (awaited : Awaited) (acts : List Act) → IsAsked h awaited acts → ActsChangeNothing [] acts
waiting_lost h (awaits.Job id) acts asked = inl asked.1
waiting_lost h (awaits.Plan plan) acts asked = plan_lost (client_of h) (programme_query_in plan.start plan.stop (query_of h.target)) [] acts plan.request asked

-- a response that was made of what was found, or failed, is one to the request that waited
pub waiting_made : {E : Type 0} (channel : ServedChannel) (h : RequestHead) (awaited : Awaited) (found : Found) (acts : List Act) (response : Result ResponseData E) → may_wait (params_of channel h).method ≡ true → IsAsked h awaited acts
    → IsFound awaited found → IfOk response (ShowsAwaited awaited (params_of channel h) found) → IsMadeResponse (IsResponse (params_of channel h) (awaited_route awaited) [] acts) [] acts response
waiting_made channel h awaited found acts (Ok a) waits asked gets shows = waiting_answer channel h awaited found acts a waits asked gets shows
waiting_made channel h awaited found acts (Err e) waits asked gets shows = inl (waiting_lost h awaited acts asked)

-- ---- that it may wait, and until when

-- the pair in an option, or zeros
abbrev pair_in : Option (ℕ × ℕ) → ℕ × ℕ
pair_in (Some pair) = pair
pair_in None = (0, 0)

-- if a response waits for job `id` until a deadline, the route is that job's and the deadline is the given one
pub awaited_by_route : (route : Route) (deadline : Option ℕ) (id at : ℕ) → awaited_by route deadline ≡ Some (id, at) → (route ≡ routes.Job id) × (deadline ≡ Some at)
awaited_by_route (routes.Job i) (Some d) id at is = (ap (λ (o : Option (ℕ × ℕ)). routes.Job (pair_in o).0) is, ap (λ (o : Option (ℕ × ℕ)). Some (pair_in o).1) is)
awaited_by_route (routes.Job i) None id at is = absurd (cc is)
awaited_by_route route deadline id at is = absurd (cc is)

-- if there is a deadline, the head asks for a wait and the method's response may wait
pub wait_asked : (method : Method) (wait now : Option ℕ) (at : ℕ) → deadline_by method wait now ≡ Some at → (is_some wait ≡ true) × (may_wait method ≡ true)
wait_asked method (Some seconds) (Some now) at is = (refl, by (may_wait method) is)
  where
    by : (may : Bool) → cond may (Some (deadline_after now seconds)) None ≡ Some at → may ≡ true
    by true is = refl
    by false is = absurd (cc is)
wait_asked method (Some seconds) None at is = absurd (cc is)
wait_asked method None now at is = absurd (cc is)

-- a deadline is at most 30 seconds away
soon : (now seconds : ℕ) → deadline_after now seconds ≤ now + 30000
soon now seconds = omega (arith, min-le_left (now + min seconds 30 * 1000) (2 ^ 64 - 1), min-le_right seconds 30)

-- the deadline by a head is one for a response that begins to wait
pub wait_ends : (method : Method) (wait now : Option ℕ) (at : ℕ) → deadline_by method wait now ≡ Some at → IsDeadline now None (Some at)
wait_ends method (Some seconds) (Some now) at is = by (may_wait method) is
  where
    by : (may : Bool) → cond may (Some (deadline_after now seconds)) None ≡ Some at → at ≤ now + 30000
    by true is = let same : deadline_after now seconds ≡ at = cc is in subst (λ (n : ℕ). n ≤ now + 30000) same (soon now seconds)
    by false is = absurd (cc is)
wait_ends method (Some seconds) None at is = absurd (cc is)
wait_ends method None now at is = absurd (cc is)

-- the wait in an option, or the given one
abbrev wait_in : PlanWait → Option PlanWait → PlanWait
wait_in given (Some found) = found
wait_in given None = given

-- the route is that of a programme, the method's response may wait for its plan, and its deadline is at most 30 seconds away
pub record AsksForPlan (route : Route) (method : Method) (now : Option ℕ) (wait : PlanWait) : Type 0 where
  pub route_is : route ≡ routes.Programme wait.start wait.stop wait.file
  pub waits : may_wait method ≡ true
  pub deadline : IsDeadline now None (Some wait.deadline_ms)

-- a deadline for a plan is at most 30 seconds away
soon_planned : (now wait_ms : ℕ) → plan_deadline_after now wait_ms ≤ now + 30000
soon_planned now wait_ms = omega (arith, min-le_left (now + min wait_ms 30000) (2 ^ 64 - 1), min-le_right wait_ms 30000)

-- a wait for a plan is one for a programme's route, a method whose response may wait, and a deadline at most 30 seconds away
pub plan_asked : (route : Route) (method : Method) (now : Option ℕ) (wait_ms : ℕ) (wait : PlanWait) → plan_wait_by route method now wait_ms ≡ Some wait → AsksForPlan route method now wait
plan_asked (routes.Programme start stop file) method (Some now) wait_ms wait is = by (may_wait method) refl is
  where
    made : PlanWait
    made = record { start = start; stop = stop; file = file; deadline_ms = plan_deadline_after now wait_ms }

    by : (may : Bool) → may_wait method ≡ may → cond may (Some made) None ≡ Some wait → AsksForPlan (routes.Programme start stop file) method (Some now) wait
    by true may is =
        let same : made ≡ wait = ap (wait_in made) is in
        subst (λ (w : PlanWait). AsksForPlan (routes.Programme start stop file) method (Some now) w) same (record { route_is = refl; waits = may; deadline = soon_planned now wait_ms })
    by false may is = absurd (cc is)
plan_asked (routes.Programme start stop file) method None wait_ms wait is = absurd (cc is)
plan_asked route method now wait_ms wait is = absurd (cc is)

-- ---- a step of a connection

-- a deadline that is right for a response that begins to wait without a time, which is none, is right at any time
pub without_time : (now deadline : Option ℕ) → IsDeadline None None deadline → IsDeadline now None deadline
without_time now None is = tt
without_time now (Some d) is = absurd is

-- a deadline that stays the same is kept
pub deadline_stays : (now deadline : Option ℕ) → IsDeadline now deadline deadline
deadline_stays now None = tt
deadline_stays now (Some d) = refl

-- a deadline that a response began with and then kept is one that it may begin with
pub deadline_on : (now here after : Option ℕ) → IsDeadline now None here → IsDeadline now here after → IsDeadline now None after
deadline_on now here None x y = tt
deadline_on now None (Some d) x y = y
deadline_on now (Some e) (Some d) x y = subst (λ (n : ℕ). IsDeadline now None (Some n)) (sym y) x

-- a state that isn't a waiting response's has no deadline
pub awake_state : (state : ConnectionState) → ((w : WaitingResponse) → state ≢ states.Wait w) → deadline_in state ≡ None
awake_state (states.Wait w) never = absurd (never w refl)
awake_state state never = refl

-- if no response waited in the old state, AnswersDue requires nothing of the new state and its output
awake_due : (now : Option ℕ) (state new : ConnectionState) (pending : List ℕ) → deadline_in state ≡ None → AnswersDue now state new pending
awake_due now (states.Wait w) new pending is = absurd (cc is)
awake_due now state new pending is = tt

-- in a state without a deadline no response waits
awake_waits : (state : ConnectionState) → deadline_in state ≡ None → IsTrue (waits_in state) → ⊥
awake_waits (states.Wait w) is waits = absurd (cc is)
awake_waits state is waits = absurd (cc waits)

-- no response waited
module _ {now : Option ℕ} {old new : ConnectionTrace} {more : Bool} (awake : deadline_in old.state ≡ None) where
  -- steps after which a response may begin to wait satisfy KeepsWaits
  pub begins_waits : IsDeadline now None (deadline_in new.state) → (IsFalse more → TraceWaits new → IsAhead now (deadline_in new.state)) → KeepsWaits now old new more
  begins_waits deadline timely = record { deadline = rw awake deadline; answers = λ empty. awake_due now old.state new.state new.past.pending awake; timely = timely }

  -- steps before and after which no response waits satisfy KeepsWaits
  pub never_waits : deadline_in new.state ≡ None → KeepsWaits now old new more
  never_waits is = begins_waits (rw is tt) (λ off waits. absurd (awake_waits new.state is waits.1))

-- doing nothing while something is pending satisfies KeepsWaits
pub sending_waits : (now : Option ℕ) (c : ConnectionTrace) (more : Bool) → 0 < length c.past.pending → KeepsWaits now c c more
sending_waits now c more some = record {
  deadline = deadline_stays now (deadline_in c.state);
  answers = λ empty. absurd (omega (arith, empty, some));
  timely = λ off waits. absurd (omega (arith, waits.0, some));
}

-- a step after which a response still waits, as its job or plan was found unfinished, satisfies KeepsWaits
pub waiting_waits : (now : Option ℕ) (old new : ConnectionTrace) (more : Bool) (w next : WaitingResponse) → old.state ≡ states.Wait w → new.state ≡ states.Wait next → next ≡ w → AnswersWait now w None → KeepsWaits now old new more
waiting_waits now old new more w next was is same a = record {
  deadline = rw (was, is, same) refl;
  answers = λ empty. rw (was, is, same) (a.found, a.gets, stays (has_time now w.deadline_ms && is_unfinished a.found) a.answers);
  timely = λ off waits. rw (is, same) (ahead (has_time now w.deadline_ms) (is_unfinished a.found) a.answers);
}
  where
    stays : (on : Bool) → AnswersWith w a.found on None → StaysOrAnswers w a.found on (states.Wait w) new.past.pending
    stays true answers = refl
    stays false answers = absurd answers

    ahead : (time unfinished : Bool) → AnswersWith w a.found (time && unfinished) None → IsTrue time
    ahead true unfinished answers = refl
    ahead false unfinished answers = absurd answers

-- a step that answers the request whose response waited satisfies KeepsWaits
pub answered_waits : (now : Option ℕ) (old c : ConnectionTrace) (more : Bool) (w : WaitingResponse) (step : Transition) → old.state ≡ states.Wait w → AnswersWait now w (Some step) → deadline_in step.state ≡ None
    → KeepsWaits now old (trace_after_step c step) more
answered_waits now old c more w step was a awake = record {
  deadline = rw awake tt;
  answers = λ empty. rw was (a.found, a.gets, answers (has_time now w.deadline_ms && is_unfinished a.found) a.answers);
  timely = λ off waits. absurd (awake_waits step.state awake waits.1);
}
  where
    answers : (on : Bool) → AnswersWith w a.found on (Some step) → StaysOrAnswers w a.found on step.state step.output
    answers true is = absurd (cc is)
    answers false is = is

-- steps to a trace that satisfy KeepsWaits do so for an equal trace
pub waits_to : {now : Option ℕ} {old here new : ConnectionTrace} {more : Bool} → new ≡ here → KeepsWaits now old here more → KeepsWaits now old new more
waits_to {now} {old} {more = more} is x = subst (λ (c : ConnectionTrace). KeepsWaits now old c more) (sym is) x
