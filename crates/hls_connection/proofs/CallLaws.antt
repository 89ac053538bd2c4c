-- What is made for an answer, and the reply that is due for it.
use Rattle.std.proofs.Common.{◌≡◌, ◌≢◌, ◌⊎◌, ◌∙◌, ◌≤◌, ℕ, Bool, true, false, append-nil, arith, inl, inr, List, [], ◌++◌, length, Option, Some, None, IfOk, Result, Ok, Err, refl, sym, ap, subst}
use Rattle.httparse.specs.Grammar.{RequestHead}
use Rattle.hls_http.specs.{declared.fault.HttpFault.HttpFault, declared.request_action.RequestAction.RequestAction, Actions.sends_close}
use Rattle.hls_http.specs.ResponseText.{fault_status, is_success, out_of_memory_response}
use Rattle.hls_core_laws.specs.{declared.{event.Event.TheVariants.Finish, refusal.Refusal.{Refusal, TheVariants.Memory}}, State.State}
use Rattle.hls_core_laws.specs.declared.done.Done.{Done as Moved}
use Rattle.hls_catchup.specs.{declared.{fault.JobFault.JobFault, jobs.job.Job.Job}, Jobs.{JobLine.served_version, Shared.HasRemoved}}
use Rattle.hls_api.specs.Acts.{Act, ActsChangeNothing, Knowledge, RecordsAdd, RecordsLook, RecordsRemove, RecordsSubmit}
use Rattle.hls_api.specs.{JobResponses.added_answer, JobResponses.removed_answer, JobTable.IsAddResult, JobTable.IsGetResult, declared.route.Route.Route}
use Rattle.hls_api.specs.{Queries.request_for, Queries.catchup_params_of, declared.catchup_query.CatchupQuery.CatchupQuery, declared.catchup_query.QueryFault.QueryFault, declared.catchup_params.CatchupParams.CatchupParams}
use Rattle.hls_api.specs.Exchanges.{AddsValidJob, RequestParams, AddsCatchupJob, DueResponse, RoutedRequest, FinishesRendition, IsDue, IsDueWithoutHead, IsDiscardDue, RemovesJob, IsServedBy, ServesAllowed, ServesBy, ServesJob, IsJobResponse, RespondsWithJob, due_for_memory, continue_prefix, job_at, to_head}
use Rattle.hls_api.specs.{Responses.{ResponseData, answer_text, fault_answer, finish_answer}, Routes.{allows, removes_job}}
use Rattle.hls_connection.specs.{declared.state.ConnectionState.ConnectionState, declared.state.Transition.Transition}
use Rattle.hls_connection.specs.States.{HasNoActs, Proceeds, RespondsWith, SendsResponse, SuitsState, acts_of_step, current_acts, respond_step, state_after, steps_of}
use Rattle.hls_connection.specs.{Waits.deadline_in, RequestContexts.{IsDueFor, IsResponse, IsMadeResponse, memory_due, due_response}}
use Rattle.hls_http.specs.declared.fault.HttpFault.TheVariants as faults

-- ---- replies

-- a step that sends a due reply sends one by any weaker condition, too
pub replies_by : {P Q : DueResponse → Type 0} {first other : List ℕ} {acts : List Act} {step : Transition} → other ≡ first → ((due : DueResponse) → P due → Q due) → RespondsWith P first acts step → RespondsWith Q other acts step
replies_by {step} is map r = record { due = r.due; is = map r.due r.is; text_is = r.text_is ∙ ap (λ (t : List ℕ). t ++ step.output) (sym is); step_is = r.step_is }

-- a step that sends the out-of-memory response sends what is due, whatever answer was made
pub memory_replies : {E : Type 0} (first : List ℕ) (response : Result ResponseData E) (closing head : Bool) {acts : List Act} {step : Transition} → step ≡ respond_step (out_of_memory_response head) true false acts
    → RespondsWith (IsDueFor first response closing head) first acts step
memory_replies first (Ok a) closing head is = rw is (record { due = memory_due first head; is = inr refl; text_is = refl; step_is = refl })
memory_replies first (Err e) closing head is = rw is (record { due = memory_due first head; is = refl; text_is = refl; step_is = refl })

-- any keeper suits the state after a response, which is between requests or at the end
after_suits : (known : Knowledge) (closing success : Bool) → SuitsState known (state_after closing success)
after_suits known false success = tt
after_suits known true true = tt
after_suits known true false = tt

-- at most one step is left in the state after a response
after_few : (closing success : Bool) → steps_of (state_after closing success) ≤ 1
after_few false success = omega arith
after_few true true = omega arith
after_few true false = omega arith

-- the state after a response has no acts
after_acts : (closing success : Bool) → current_acts (state_after closing success) ≡ []
after_acts false success = refl
after_acts true true = refl
after_acts true false = refl

-- no response waits in the state after a response
after_awake : (closing success : Bool) → deadline_in (state_after closing success) ≡ None
after_awake false success = refl
after_awake true true = refl
after_awake true false = refl

-- a step that sends a due reply ends its request
pub sends_by : {Is : DueResponse → Type 0} {first : List ℕ} {acts : List Act} {step : Transition} → RespondsWith Is first acts step → SendsResponse acts step
sends_by r = record { closing = r.due.closing; success = r.due.success; step_is = r.step_is }

module _ {acts : List Act} {step : Transition} (x : SendsResponse acts step) where
  -- any keeper suits the state after a response
  pub sent_suits : (known : Knowledge) → SuitsState known step.state
  sent_suits known = subst (λ (s : Transition). SuitsState known s.state) (sym x.step_is) (after_suits known x.closing x.success)

  -- at most one step is left after a response
  pub sent_few : steps_of step.state ≤ 1
  sent_few = subst (λ (s : Transition). steps_of s.state ≤ 1) (sym x.step_is) (after_few x.closing x.success)

  -- after a response more may be done at once
  pub sent_more : step.more ≡ true
  sent_more = ap (λ (s : Transition). s.more) x.step_is

  -- the acts of a step that sends a response are those for its request
  pub sent_acts : acts_of_step step ≡ acts
  sent_acts = ap acts_of_step x.step_is ∙ ap (λ (t : List Act). acts ++ t) (after_acts x.closing x.success) ∙ append-nil acts

  -- no response waits after a response was sent
  pub sent_awake : deadline_in step.state ≡ None
  sent_awake = subst (λ (s : Transition). deadline_in s.state ≡ None) (sym x.step_is) (after_awake x.closing x.success)

  -- after a response more may be done at once, with at most one step left
  pub sent_proceeds : (now : Option ℕ) (most : ℕ) → 1 ≤ most → Proceeds now most step
  sent_proceeds now most fits = record { suits = sent_suits; continues = sent_more; few = omega (arith, sent_few, fits); deadline = rw sent_awake tt }

  -- a step that sends a response to a request whose acts were already there adds no acts
  pub sent_asks_nothing : {old : ConnectionState} → acts ≡ current_acts old → HasNoActs old step
  sent_asks_nothing same = record { same = sent_acts ∙ same; suits = λ known valid. sent_suits known; awake = sent_awake }

-- ---- what is due of an answer

-- if an answer was made, or making it failed, what is due for the result is due for the answer
pub due_is : {E : Type 0} (h : RequestHead) (action : RequestAction) (a : ResponseData) (early : Bool) (response : Result ResponseData E) (due : DueResponse) → IfOk response (λ x. x ≡ a) → IsDueFor (continue_prefix h action) response (sends_close h early) (to_head h) due
    → IsDue h action a early due
due_is h action a early (Ok x) due same is = subst (λ (y : ResponseData). IsDue h action y early due) same is
due_is h action a early (Err e) due same is = inr is

-- the out-of-memory reply is due after a discarded body if the acts changed nothing or are those of some answer
skipped_wanting : (request : RoutedRequest) (route : Route) (acts : List Act) (due : DueResponse) → ActsChangeNothing [] acts ⊎ ((answer : ResponseData) × IsResponse request.asks route [] acts answer)
    → due ≡ due_for_memory request.head request.action → IsDiscardDue request route acts due (Ok tt)
skipped_wanting request route acts due (inl vain) is = (None, vain, inl is)
skipped_wanting request route acts due (inr response) is = (Some response.0, response.1, inr is)

-- what is due for the route's answer, or for the failure to make it, is due after a discarded body
pub response_due : {E : Type 0} (request : RoutedRequest) (route : Route) (acts : List Act) (response : Result ResponseData E) (due : DueResponse) → IsMadeResponse (IsResponse request.asks route [] acts) [] acts response
    → IsDueFor (continue_prefix request.head request.action) response (sends_close request.head false) (to_head request.head) due → IsDiscardDue request route acts due (Ok tt)
response_due request route acts (Ok answer) due responds is = (Some answer, responds, is)
response_due request route acts (Err e) due responds is = skipped_wanting request route acts due responds is

-- a fault's status is no success
is_refusal : (fault : HttpFault) → is_success (fault_status fault) ≡ false
is_refusal faults.BadHead = refl
is_refusal fault = refl

-- what is due for the answer to a fault in a head, without a request, closes the connection and is no success
pub refused_head_due : {E : Type 0} (fault : HttpFault) (response : Result ResponseData E) (due : DueResponse) → IfOk response (λ x. x ≡ fault_answer fault) → IsDueFor [] response true false due → IsDueWithoutHead fault due
refused_head_due fault (Ok x) due same (inl is) =
    inl (is ∙ ap (λ y. due_response [] y true false) same ∙ ap (λ (s : Bool). record { text = answer_text (fault_answer fault) true false; closing = true; success = s }) (is_refusal fault))
refused_head_due fault (Ok x) due same (inr is) = inr is
refused_head_due fault (Err e) due same is = inr is

-- ---- answers that are made

-- a response made of the outcome of the event Finish is one to a request to finish, or its making failed after the event
pub finish_made : {E : Type 0} (a b : List Act) (r : ℕ) (done : Result Moved Refusal) (response : Result ResponseData E) → RecordsSubmit a (Finish r) done b → done ≢ Err Memory
    → IfOk response (λ x. x ≡ finish_answer done) → IsMadeResponse (FinishesRendition a r b) a b response
finish_made a b r done (Ok x) submits told same = (done, submits, told, same)
finish_made a b r done (Err e) submits told same = inr (finish_answer done, (done, submits, told, refl))

-- for a route without a job, if the route allows the method, the route's own response is the response to the request
pub response_made : {E : Type 0} (q : RequestParams) (route : Route) (a b : List Act) (response : Result ResponseData E) → job_at route ≡ None → allows route q.method ≡ true
    → IsMadeResponse (λ answer. IsServedBy q route a answer b) a b response → IsMadeResponse (IsResponse q route a b) a b response
response_made q route a b response of_none allowed serves =
    subst (λ (job : Option ℕ). IsMadeResponse (λ answer. ServesBy q route a answer b job) a b response) (sym of_none)
    (subst (λ (m : Bool). IsMadeResponse (λ answer. ServesAllowed q route a answer b m) a b response) (sym allowed) serves)

-- for a route with a job, the response about the job is the response to the request
pub job_made : {E : Type 0} (q : RequestParams) (route : Route) (id : ℕ) (a b : List Act) (response : Result ResponseData E) → job_at route ≡ Some id
    → IsMadeResponse (λ x. ServesJob q route id a x b (removes_job route q.method)) a b response → IsMadeResponse (IsResponse q route a b) a b response
job_made q route id a b response of_job serves = subst (λ (job : Option ℕ). IsMadeResponse (λ x. ServesBy q route a x b job) a b response) (sym of_job) serves

-- a response made of the result of a job's removal is one to its DELETE, or its making failed after the removal
pub removed_made : {E : Type 0} (id : ℕ) (a b : List Act) (result : Result (Unit {0}) JobFault) (response : Result ResponseData E) → RecordsRemove a id result b → HasRemoved id result
    → IfOk response (λ x. x ≡ removed_answer result) → IsMadeResponse (RemovesJob id a b) a b response
removed_made id a b result (Ok x) asked removes is = record { result = result; asked = asked; removes = removes; answer_is = is }
removed_made id a b result (Err e) asked removes is = inr (removed_answer result, record { result = result; asked = asked; removes = removes; answer_is = refl })

-- a response made of the result of adding a job for a query is one to its POST, or its making failed after the addition
pub added_made : {E : Type 0} (query : CatchupQuery) (s : State) (params : CatchupParams) (a z b : List Act) (result : Result ℕ JobFault) (response : Result ResponseData E) → RecordsLook a s z
    → catchup_params_of s.config.epoch query ≡ Ok params → RecordsAdd z s (request_for s params) result b → IsAddResult s (request_for s params) result
    → IfOk response (λ x. x ≡ added_answer (served_version s) result) → IsMadeResponse (AddsCatchupJob query a b) a b response
added_made query s params a z b result response looks asks asked adds is = by response is
  where
    job : (x : ResponseData) → x ≡ added_answer (served_version s) result → AddsCatchupJob query a b x
    job x told = record {
      state = s;
      looked = z;
      looks = looks;
      adds = subst (λ (w : Result CatchupParams QueryFault). AddsValidJob s w z b x) (sym asks) (record { result = result; asked = asked; adds = adds; answer_is = told });
    }

    by : {E : Type 0} (response : Result ResponseData E) → IfOk response (λ x. x ≡ added_answer (served_version s) result) → IsMadeResponse (AddsCatchupJob query a b) a b response
    by (Ok x) told = job x told
    by (Err e) told = inr (added_answer (served_version s) result, job _ refl)

-- a response without acts satisfies its condition, or its making failed and changed nothing
pub shown_made : {E : Type 0} (P : ResponseData → Type 0) (a : List Act) (response : Result ResponseData E) → IfOk response P → IsMadeResponse (λ x. (a ≡ a) × P x) a a response
shown_made P a (Ok x) is = (refl, is)
shown_made P a (Err e) is = inl (inl refl)

-- if the table returned a job, a response that shows it is one made of the table's result
pub shown_found : {E : Type 0} (shown : Job → Option ResponseData) (found : Result Job JobFault) (job : Job) (response : Result ResponseData E) → found ≡ Ok job
    → IfOk response (λ a. Some a ≡ shown job) → IfOk response (IsJobResponse found shown)
shown_found shown found job (Ok x) is same = subst (λ (t : Result Job JobFault). IsJobResponse t shown x) (sym is) (sym same)
shown_found shown found job (Err e) is same = same

-- a response made of what the table of jobs returned for an id is one about that job
pub found_job : {E : Type 0} (id : ℕ) (shown : Job → Option ResponseData) (found : Result Job JobFault) (response : Result ResponseData E) → IsGetResult id found
    → IfOk response (IsJobResponse found shown) → IfOk response (RespondsWithJob id shown)
found_job id shown found (Ok x) gets is = (found, gets, is)
found_job id shown found (Err e) gets is = is
