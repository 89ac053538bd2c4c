-- What is sent to requests for programmes.
use Rattle.hls_api.specs.declared.route.ServedChannel.{ServedChannel}
use Rattle.std.proofs.Common.{◌≡◌, true, false, ℕ, List, [], Some, Result, Ok, inl, subst, sym}
use Rattle.httparse.specs.Grammar.{RequestHead}
use Rattle.hls_http.specs.{declared.framing.BodyFraming.BodyFraming, declared.method.Method.Method, Actions.sends_close}
use Rattle.hls_api.specs.{Acts.{Act, ActsExtend, Knowledge, RecordsLook}, OtherActors.OtherActors, Responses.ResponseData}
use Rattle.hls_api.specs.Exchanges.{HandlesProgramme, continue_prefix, request_of, to_head}
use Rattle.hls_api.specs.Programmes.{ShowsFound, StartsProgramme}
use Rattle.hls_api.specs.declared.programme_responses.ProgrammeStart.{ProgrammeStart}
use Rattle.hls_api.specs.declared.programme_responses.ProgrammeStart.TheVariants.{Planned}
use Rattle.hls_catchup.specs.declared.request.Request.{Request}
use Rattle.hls_core_laws.specs.State.{State}
use Rattle.hls_jobs.specs.Plans.{HasAddedPlan}
use Rattle.hls_jobs.specs.declared.plans.FoundPlan.{FoundPlan}
use Rattle.hls_api.specs.declared.{catchup_query.CatchupQuery.CatchupQuery, catchup_query.TimePoint.TimePoint, route.ProgrammeFile.ProgrammeFile}
use Rattle.hls_connection.specs.{declared.request_context.RequestContext.RequestContext, declared.state.Transition.Transition}
use Rattle.hls_connection.specs.{RequestContexts.{ForQuery, IsContextOf, IsDueFor, IsMadeResponse}, States.{IsHandled, RespondsWith}, Waits.may_wait, WithinBody.IsDiscarded}
use Rattle.hls_connection.proofs.{AnswerLaws.replies_discarded, CallLaws.response_due, PlayerLaws.programme_begun}
use Rattle.hls_api.specs.declared.route.Route.TheVariants as routes

-- acts that lead to what the keeper knew then lead to what it knows now, if that is the same
pub acts_kept : (m : OtherActors) (a b now : Knowledge) (old new : List Act) → now ≡ b → ActsExtend m a old b new → ActsExtend m a old now new
acts_kept m a b now old new same done = subst (λ (k : Knowledge). ActsExtend m a old k new) (sym same) done

-- the reply that shows the plan of a query's request, as it was when added, is a reply to the request for the programme
pub planned_begun : (client : ℕ) (s : State) (query : CatchupQuery) (file : ProgrammeFile) (a b : List Act) (begun : ProgrammeStart) (request : Request) (found : FoundPlan) (shown : ResponseData) → RecordsLook a s b
    → StartsProgramme s query begun → begun ≡ Planned request → HasAddedPlan request client found → ShowsFound file found shown → HandlesProgramme client (Some query) file a b shown
planned_begun client s query file a b begun request found shown looks starts is added shows =
    (s, looks, (Planned request, subst (λ (x : ProgrammeStart). StartsProgramme s query x) is starts, inl (found, added, shows)))

-- a step that sends the reply for a programme, whose request's body was discarded, handles the request
pub sent_programme : {E : Type 0} {channel : ServedChannel} {stream first unread : List ℕ} {context : RequestContext} {last : BodyFraming} (start stop : TimePoint) (file : ProgrammeFile) (acts : List Act)
    (response : Result ResponseData E) (step : Transition)
    → IsDiscarded channel stream first context (routes.Programme start stop file) last unread (Ok tt) → may_wait context.head.method ≡ true
    → ForQuery context.query (λ said. IsMadeResponse (HandlesProgramme context.head.client said file [] acts) [] acts response)
    → ((channel : ServedChannel) (h : RequestHead) (first : List ℕ) → IsContextOf channel h context → RespondsWith (IsDueFor first response (sends_close h false) (to_head h)) first acts step)
    → IsHandled channel stream first unread step
sent_programme {channel} start stop file acts response step x may made responds =
    let request = request_of channel x.at.head in
    let query = rw x.route_is at x.at.is_context.query in
    let asked = rw x.at.is_context.head.client at (made _ query) in
    let waits : may_wait request.asks.method ≡ true = subst (λ (m : Method). may_wait m ≡ true) x.at.is_context.head.method may in
    inl (
      acts,
      replies_discarded x acts (λ due is. response_due request (routes.Programme start stop file) acts response due (programme_begun request.asks start stop file acts response waits asked) is)
          (responds channel x.at.head (continue_prefix x.at.head request.action) x.at.is_context),
    )
