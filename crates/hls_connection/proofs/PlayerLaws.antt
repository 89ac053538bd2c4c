-- The replies to players are made of the state that is seen.
use Rattle.std.proofs.Common.{◌≡◌, ◌∙◌, ℕ, true, List, [], Option, Some, None, IfOk, Result, Ok, Err, inl, inr, ap, refl, sym}
use Rattle.hls_api.specs.Acts.{Act, ActsChangeNothing, Looked, RecordsLook}
use Rattle.hls_api.specs.Exchanges.{HandlesProgramme, IsServedBy, RequestParams, shown_to_player}
use Rattle.hls_api.specs.Responses.{ResponseData, metrics_answer}
use Rattle.hls_catchup.specs.Jobs.Shared.{HasCounted}
use Rattle.hls_metrics.specs.declared.measured.Measured.{Measured}
use Rattle.hls_api.specs.Programmes.{ShowsFound, StartsProgramme}
use Rattle.hls_api.specs.Queries.{programme_query_in}
use Rattle.hls_api.specs.Routes.{allows}
use Rattle.hls_api.specs.declared.programme_responses.ProgrammeStart.TheVariants.{Planned, Refused}
use Rattle.hls_api.specs.declared.catchup_query.{CatchupQuery.CatchupQuery, TimePoint.TimePoint}
use Rattle.hls_api.specs.declared.route.ProgrammeFile.{ProgrammeFile}
use Rattle.hls_api.specs.declared.route.Route.{Route}
use Rattle.hls_api.specs.declared.route.Route.TheVariants as routes
use Rattle.hls_core_laws.specs.State.{State}
use Rattle.hls_api.proofs.Callers.{player_served}
use Rattle.hls_catchup.specs.declared.request.Request.{Request}
use Rattle.hls_http.specs.declared.method.Method.{Method}
use Rattle.hls_jobs.specs.Plans.{HasAddedPlan, HasFoundPlan}
use Rattle.hls_jobs.specs.declared.plans.FoundPlan.{FoundPlan}
use Rattle.hls_jobs.specs.declared.plans.FoundPlan.TheVariants.{Unfinished}
use Rattle.hls_connection.specs.{Plans.AwaitsPlanOf, RequestContexts.{IsMadeResponse, IsResponse, RespondsBy}, Waits.may_wait}
use Rattle.hls_http.specs.declared.method.Method.TheVariants as methods

-- if the answer was made that a player is shown, the result is what is shown
pub is_shown : {E : Type 0} (result : Result ResponseData E) (answer : ResponseData) (shown : Option ResponseData) → shown ≡ Some answer →
    IfOk result (λ a. a ≡ answer) → IfOk result (λ a. shown ≡ Some a)
is_shown (Ok a) answer shown is made = is ∙ ap (λ (x : ResponseData). Some x) (sym made)
is_shown (Err e) answer shown is made = made

-- if the state was looked at and what a player is shown was made, the request is served
pub responds_to_player : {E : Type 0} (q : RequestParams) (route : Route) (a b : List Act) (s : State) (result : Result ResponseData E) → RecordsLook a s b →
    IfOk result (λ answer. shown_to_player q route s ≡ Some answer) → RespondsBy (λ x y answer. IsServedBy q route x answer y) a b result
responds_to_player q route a b s (Ok answer) looks shown = player_served q route a b s answer looks shown
responds_to_player q route a b s (Err e) looks shown = inl (inr (Looked s, inl (tt {0}), looks))

-- if the state was looked at and its metrics were made, the request is served
pub responds_with_metrics : {E : Type 0} (q : RequestParams) (a b : List Act) (s : State) (result : Result ResponseData E) → RecordsLook a s b
    → IfOk result (λ answer. (jobs : ℕ) × HasCounted jobs × ((measured : Measured) × (answer ≡ metrics_answer s jobs measured))) → RespondsBy (λ x y answer. IsServedBy q routes.Metrics x answer y) a b result
responds_with_metrics q a b s (Ok answer) looks (jobs, counted, (measured, is)) = (jobs, counted, (measured, (s, looks, is)))
responds_with_metrics q a b s (Err e) looks made = inl (inr (Looked s, inl (tt {0}), looks))

-- ---- programmes

-- a programme whose plan is awaited is answered with the plan as it was found later
pub plan_shown : (client : ℕ) (said : Option CatchupQuery) (file : ProgrammeFile) (a b : List Act) (request : Request) (found : FoundPlan) (answer : ResponseData) → AwaitsPlanOf client said a b request → HasFoundPlan request found
    → ShowsFound file found answer → HandlesProgramme client said file a b answer
plan_shown client (Some query) file a b request found answer x gets shows = (x.state, x.looks, (Planned request, x.starts, inr (x.added, (found, gets, shows))))
plan_shown client None file a b request found answer x gets shows = absurd x

-- a programme whose plan is awaited is answered as unfinished
pub plan_unfinished : (client : ℕ) (said : Option CatchupQuery) (file : ProgrammeFile) (a b : List Act) (request : Request) (answer : ResponseData) → AwaitsPlanOf client said a b request
    → ShowsFound file Unfinished answer → HandlesProgramme client said file a b answer
plan_unfinished client (Some query) file a b request answer x shows = (x.state, x.looks, (Planned request, x.starts, inl (Unfinished, x.added, shows)))
plan_unfinished client None file a b request answer x shows = absurd x

-- a request whose plan is awaited has changed nothing
pub plan_lost : (client : ℕ) (said : Option CatchupQuery) (a b : List Act) (request : Request) → AwaitsPlanOf client said a b request → ActsChangeNothing a b
plan_lost client (Some query) a b request x = inr (Looked x.state, inl (tt {0}), x.looks)
plan_lost client None a b request x = absurd x

-- the response that says that an awaited plan is unfinished is one to the request, or failed and changed nothing
pub unfinished_shown : {E : Type 0} (client : ℕ) (said : Option CatchupQuery) (file : ProgrammeFile) (a b : List Act) (request : Request) (response : Result ResponseData E) → AwaitsPlanOf client said a b request
    → IfOk response (λ answer. ShowsFound file Unfinished answer) → RespondsBy (HandlesProgramme client said file) a b response
unfinished_shown client said file a b request (Ok answer) x shows = plan_unfinished client said file a b request answer x shows
unfinished_shown client said file a b request (Err e) x shows = inl (plan_lost client said a b request x)

-- a programme that the state doesn't have is answered with the refusal
pub programme_refused : (client : ℕ) (query : CatchupQuery) (file : ProgrammeFile) (a b : List Act) (s : State) (answer : ResponseData) → RecordsLook a s b → StartsProgramme s query (Refused answer)
    → HandlesProgramme client (Some query) file a b answer
programme_refused client query file a b s answer looks starts = (s, looks, (Refused answer, starts, refl))

-- a programme that the state has is answered with its plan as it was when added
pub programme_found : (client : ℕ) (query : CatchupQuery) (file : ProgrammeFile) (a b : List Act) (s : State) (request : Request) (found : FoundPlan) (answer : ResponseData) → RecordsLook a s b
    → StartsProgramme s query (Planned request) → HasAddedPlan request client found → ShowsFound file found answer → HandlesProgramme client (Some query) file a b answer
programme_found client query file a b s request found answer looks starts added shows = (s, looks, (Planned request, starts, inl (found, added, shows)))

-- a method whose response may wait is allowed for a programme
allowed : (start stop : TimePoint) (file : ProgrammeFile) (method : Method) → may_wait method ≡ true → allows (routes.Programme start stop file) method ≡ true
allowed start stop file methods.Get is = refl
allowed start stop file methods.Head is = refl
allowed start stop file method is = absurd (cc is)

-- the reply for a programme is the response to a request with a method whose response may wait
pub programme_response : (q : RequestParams) (start stop : TimePoint) (file : ProgrammeFile) (a b : List Act) (answer : ResponseData) → may_wait q.method ≡ true
    → HandlesProgramme q.client (programme_query_in start stop q.query) file a b answer → IsResponse q (routes.Programme start stop file) a b answer
programme_response q start stop file a b answer may shows = rw (allowed start stop file q.method may) shows

-- the same of a response that was made or failed
pub programme_begun : {E : Type 0} (q : RequestParams) (start stop : TimePoint) (file : ProgrammeFile) (acts : List Act) (response : Result ResponseData E) → may_wait q.method ≡ true
    → IsMadeResponse (HandlesProgramme q.client (programme_query_in start stop q.query) file [] acts) [] acts response → IsMadeResponse (IsResponse q (routes.Programme start stop file) [] acts) [] acts response
programme_begun q start stop file acts (Ok answer) may shows = programme_response q start stop file [] acts answer may shows
programme_begun q start stop file acts (Err e) may (inl nothing) = inl nothing
programme_begun q start stop file acts (Err e) may (inr (answer, shows)) = inr (answer, programme_response q start stop file [] acts answer may shows)
