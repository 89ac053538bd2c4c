-- For the proofs of this crate; no public clause cites it.
-- A request between its head and its reply: what is kept of its head, what is made, and what is due.
use Rattle.hls_api.specs.declared.route.ServedChannel.{ServedChannel}
use Rattle.std.specs.Prelude.{◌≡◌, ℕ, ◌⊎◌, Bool, true, false, List, ◌++◌, Option, Some, IfOk, Result, Ok, Err}
use Rattle.httparse.specs.Grammar.{RequestHead}
use Rattle.hls_http.specs.{ResponseText.{is_success, out_of_memory_response}, ReadHeads.IsHead}
use Rattle.hls_api.specs.{declared.catchup_query.CatchupQuery.CatchupQuery, declared.route.Route.Route, Queries.{programme_query_in, query_in}}
use Rattle.hls_api.specs.{Acts.{Act, ActsChangeNothing}, Exchanges.{RequestParams, DueResponse, ServesBy, params_of, job_at}}
use Rattle.hls_api.specs.{Responses.{ResponseData, answer_text}, Routes.{path_of, query_of, route_of}}
use Rattle.hls_connection.specs.declared.request_context.RequestContext.{RequestContext}
use Rattle.hls_api.specs.declared.route.Route.TheVariants as routes

-- ---- what was read

-- the query that was read from a text for a catch-up request or a programme; other routes have none
abbrev pub HasQuery : {E : Type 0} → Option Route → List ℕ → Result (Option CatchupQuery) E → Type 0
HasQuery (Some routes.CatchUp) text query = IfOk query (λ said. said ≡ query_in text)
HasQuery (Some (routes.Programme start stop file)) text query = IfOk query (λ said. said ≡ programme_query_in start stop text)
HasQuery route text query = Unit {0}

-- the context is what is kept of the head h in this channel
pub record IsContextOf (channel : ServedChannel) (h : RequestHead) (context : RequestContext) : Type 0 where
  pub text : List ℕ
  pub head : IsHead h context.head text
  pub route : context.route ≡ route_of channel (path_of h.target)
  pub query : HasQuery context.route (query_of h.target) context.query

-- the relation holds of every head, and of what it asks for, for which this context may be kept in some channel
abbrev pub ForContext : RequestContext → (RequestHead → RequestParams → Type 0) → Type 0
ForContext context Is = (channel : ServedChannel) (h : RequestHead) → IsContextOf channel h context → Is h (params_of channel h)

-- .. if the context's route is this one
abbrev pub ForContextAt : Route → RequestContext → (RequestHead → RequestParams → Type 0) → Type 0
ForContextAt route context Is = ForContext context (λ h q. context.route ≡ Some route → Is h q)

-- the relation holds of every query that may have been read with this result
abbrev pub ForQuery : {E : Type 0} → Result (Option CatchupQuery) E → (Option CatchupQuery → Type 0) → Type 0
ForQuery query Is = (said : Option CatchupQuery) → IfOk query (λ found. found ≡ said) → Is said

-- ---- answers

-- the answer satisfies a condition; after an allocation failure the channel wasn't changed, or some answer satisfies the condition
abbrev pub IsMadeResponse : {E : Type 0} → (ResponseData → Type 0) → List Act → List Act → Result ResponseData E → Type 0
IsMadeResponse Is a b (Ok answer) = Is answer
IsMadeResponse Is a b (Err e) = ActsChangeNothing a b ⊎ ((answer : ResponseData) × Is answer)

-- .. which depends on the acts before the request and those after it
abbrev pub RespondsBy : {E : Type 0} → (List Act → List Act → ResponseData → Type 0) → List Act → List Act → Result ResponseData E → Type 0
RespondsBy Is a b response = IsMadeResponse (Is a b) a b response

-- the answer is the route's reply to a request, with the acts from a to b
abbrev pub IsResponse : RequestParams → Route → List Act → List Act → ResponseData → Type 0
IsResponse q route a b answer = ServesBy q route a answer b (job_at route)

-- ---- what is due

-- a reply as due text after a first text, which is 100 Continue or empty
abbrev pub due_response : List ℕ → ResponseData → Bool → Bool → DueResponse
due_response first a closing to_head = record { text = first ++ answer_text a closing to_head; closing = closing; success = is_success a.status }

-- the out-of-memory reply as due text after a first text
abbrev pub memory_due : List ℕ → Bool → DueResponse
memory_due first to_head = record { text = first ++ out_of_memory_response to_head; closing = true; success = false }

-- the reply for the answer that was made, or the out-of-memory reply if making it or its text failed
abbrev pub IsDueFor : {E : Type 0} → List ℕ → Result ResponseData E → Bool → Bool → DueResponse → Type 0
IsDueFor first (Ok a) closing to_head due = (due ≡ due_response first a closing to_head) ⊎ (due ≡ memory_due first to_head)
IsDueFor first (Err e) closing to_head due = due ≡ memory_due first to_head
