-- For the proofs of this crate; no public clause cites it.
-- A request whose body is received, and how that continues.
use Rattle.hls_api.specs.declared.route.ServedChannel.{ServedChannel}
use Rattle.std.specs.Prelude.{◌≡◌, ◌≤◌, ℕ, ◌+◌, ◌-◌, Bool, true, false, not, List, [], ◌++◌, length, Option, None, Some, Result, Ok, Err, codes}
use Rattle.std.specs.Option.{is_some}
use Rattle.httparse.specs.Grammar.{RequestHead}
use Rattle.hls_boxes.specs.Parts.{fault_at_end, stream_cut, text_fault}
use Rattle.hls_core.specs.{declared.feed_fault.{StreamFault.StreamFault, FeedFault.FeedFault}, Streams.{EndsStream, Feeds, IsLeft, Reached}}
use Rattle.hls_http.specs.{declared.framing.BodyFraming.BodyFraming, declared.request_action.RequestAction.RequestAction, Heads.ReadsLimitedHead, Actions.is_over, Actions.announced_len}
use Rattle.hls_http.specs.{declared.request_action.RequestAction.TheVariants.{Ingest, Discard}, Bodies.{StepsThrough, IsOpen}}
use Rattle.hls_http.specs.{Fields.{client_of_values, values, wait_of_values}, Methods.method_of, Requests.fields_of, declared.end.BodyEnd.BodyEnd}
use Rattle.hls_http.specs.declared.end.DiscardEnd.{DiscardEnd}
use Rattle.hls_event_loop.specs.declared.activity.ConnectionStage.{ConnectionStage}
use Rattle.hls_api.specs.{declared.ingest.IngestStop.IngestStop, declared.route.Route.Route, declared.route.IngestTarget.IngestTarget, Acts.Act, Acts.Knowledge, Queries.programme_query_in, Routes.{query_of, takes_ingest}}
use Rattle.hls_api.specs.Exchanges.{DiscardsBody, params_of, continue_prefix, request_of}
use Rattle.hls_api.specs.Ingest.{HandlesBody, IngestsPart, ingest_stop_of, no_progress}
use Rattle.hls_connection.specs.{declared.request_context.RequestContext.RequestContext, declared.ingest_sink.IngestState.IngestState}
use Rattle.hls_connection.specs.{declared.receive.BodyTarget.BodyTarget, declared.receive.BodyProgress.BodyProgress, declared.receive.ReceivingBody.ReceivingBody, declared.state.WaitingResponse.WaitingResponse, declared.state.WritingResponse.WritingResponse, Waits.awaited_route, Waits.may_wait}
use Rattle.hls_connection.specs.{declared.state.Awaited.Awaited, Plans.AwaitsPlanOf}
use Rattle.hls_connection.specs.declared.state.Awaited.TheVariants as awaits
use Rattle.hls_connection.specs.declared.receive.BodyTarget.TheVariants.{Nothing, Encoder}
use Rattle.hls_connection.specs.declared.receive.BodyProgress.TheVariants.{More, Wait, TooLarge, Done}
use Rattle.hls_connection.specs.{IngestStates.IsUsable, IngestStates.progress_of, RequestContexts.IsContextOf, RequestContexts.IsResponse}
use Rattle.hls_http.specs.declared.framing.BodyFraming.TheVariants.{Length, Size, Data, Trailers}
use Rattle.hls_http.specs.declared.end.BodyEnd.TheVariants as bodies
use Rattle.hls_http.specs.declared.end.DiscardEnd.TheVariants as discards
use Rattle.hls_event_loop.specs.declared.activity.ConnectionStage.TheVariants as stages
use Rattle.hls_api.specs.declared.ingest.IngestStop.TheVariants as ingest_stops
use Rattle.hls_api.specs.declared.route.Route.TheVariants as routes

-- The stream begins with a head, whose context was kept, and with some of its body, whatever bytes follow; `last` is the framing of
-- the rest of the body, and `first` is the text that was written before the body was read.
pub record HasBody (channel : ServedChannel) (stream first : List ℕ) (context : RequestContext) (action : BodyFraming → RequestAction) (last : BodyFraming) (unread : List ℕ) : Type 0 where
  pub head : RequestHead
  pub following : List ℕ
  pub reads : (later : List ℕ) → ReadsLimitedHead (stream ++ later) head (following ++ later)
  pub is_context : IsContextOf channel head context
  pub body : BodyFraming
  pub plan_is : (request_of channel head).action ≡ action body
  pub content : List ℕ
  pub runs : (later : List ℕ) → StepsThrough body (following ++ later) content last (unread ++ later)
  pub first_is : first ≡ continue_prefix head (request_of channel head).action

-- ---- what becomes of the content

-- the body of a request with this route and the context's method isn't an encoder's
abbrev pub IsDiscardable : Route → RequestContext → Type 0
IsDiscardable route context = takes_ingest (Some route) context.head.method ≡ false

-- the target suits the route: a body that is discarded isn't an encoder's, and an encoder's is for the route's rendition
abbrev pub IsForTarget : BodyTarget → Route → RequestContext → Type 0
IsForTarget (Nothing room) route context = IsDiscardable route context
IsForTarget (Encoder encoder reader) route context = route ≡ routes.Ingest encoder

-- the keeper has seen the init section under which an encoder's body is read
abbrev pub SuitsTarget : Knowledge → BodyTarget → IngestState → Type 0
SuitsTarget known (Nothing room) taken = Unit {0}
SuitsTarget known (Encoder encoder reader) taken = IsUsable encoder.rendition known taken.init

-- what a connection waits for while more of a body is to come: it discards or ingests
abbrev pub status_into : BodyTarget → ConnectionStage
status_into (Nothing room) = stages.Discarding
status_into (Encoder encoder reader) = stages.Ingesting

-- nothing of an encoder's next part was received: its content could end here
abbrev pub TargetIsBetweenParts : BodyTarget → Type 0
TargetIsBetweenParts (Nothing room) = ⊥
TargetIsBetweenParts (Encoder encoder reader) = fault_at_end (stream_cut reader).left ≡ None

-- .. and the body is in chunks, and its last chunk wasn't read yet
abbrev pub IsBetweenPartsIn : BodyFraming → BodyTarget → Type 0
IsBetweenPartsIn (Length n) target = ⊥
IsBetweenPartsIn Size target = TargetIsBetweenParts target
IsBetweenPartsIn (Data n) target = TargetIsBetweenParts target
IsBetweenPartsIn Trailers target = ⊥

-- an encoder's body in chunks was received up to the end of one of its parts
abbrev pub BodyIsBetweenParts : ReceivingBody → Type 0
BodyIsBetweenParts r = IsBetweenPartsIn r.body r.target

-- whether the body is an encoder's whose units are mended
abbrev pub is_mended_into : BodyTarget → Bool
is_mended_into (Nothing room) = false
is_mended_into (Encoder encoder reader) = is_some encoder.mending

-- what is done with a body by its target: it is discarded or ingested
abbrev pub action_into : BodyTarget → (BodyFraming → RequestAction)
action_into (Nothing room) = Discard
action_into (Encoder encoder reader) = Ingest

-- what was received of the content so far was counted and dropped, with room for the rest; or its parts were handled
abbrev pub HasReceived : BodyTarget → Route → IngestState → List ℕ → BodyFraming → Type 0
HasReceived (Nothing room) route taken content last = (taken.acts ≡ []) × ((room + length content) + announced_len last ≡ 65536)
HasReceived (Encoder encoder reader) route taken content last =
    (route ≡ routes.Ingest encoder) × Reached (IngestsPart encoder) no_progress content reader (progress_of taken)

-- why a body is abandoned after its reader refused a part or an allocation failed
abbrev pub fed_as : Result (Unit {0}) FeedFault → Result (Unit {0}) IngestStop
fed_as (Ok done) = Ok done
fed_as (Err fault) = Err (ingest_stop_of fault)

-- why a body is refused at the end of its content, if its stream ends within a part
abbrev pub ended_as : Result (Unit {0}) StreamFault → Result (Unit {0}) IngestStop
ended_as (Ok done) = Ok done
ended_as (Err fault) = Err (ingest_stops.Refused fault)

-- a piece of the content is dropped, or given to the reader of parts
abbrev pub TakesPiece : BodyTarget → IngestState → List ℕ → BodyTarget → IngestState → Result (Unit {0}) IngestStop → Type 0
TakesPiece (Nothing room) taken piece target now result = (target ≡ Nothing room) × (now ≡ taken) × (result ≡ Ok tt)
TakesPiece (Encoder encoder reader) taken piece target now result = (later : List ℕ) × (target ≡ Encoder encoder later)
    × ((of : Result (Unit {0}) FeedFault) × (result ≡ fed_as of) × Feeds (IngestsPart encoder) reader piece later (progress_of taken) (progress_of now) of)

-- a discarded body may announce `len` more bytes; an encoder's body may announce any number
abbrev pub HasRoom : BodyTarget → ℕ → Type 0
HasRoom (Nothing room) len = len ≤ room
HasRoom (Encoder encoder reader) len = Unit {0}

-- the target after `len` more bytes were announced: a discarded body has less room
abbrev pub target_after_frame : BodyTarget → ℕ → BodyTarget
target_after_frame (Nothing room) len = Nothing (room - len)
target_after_frame (Encoder encoder reader) len = Encoder encoder reader

-- the result at the content's end: a discarded body has no fault, and an encoder's has one if its stream ends within a part
abbrev pub EndsTarget : BodyTarget → Result (Unit {0}) IngestStop → Type 0
EndsTarget (Nothing room) result = result ≡ Ok tt
EndsTarget (Encoder encoder reader) result = (of : Result (Unit {0}) StreamFault) × (result ≡ ended_as of)
    × ((content : List ℕ) → text_fault content ≡ None → IsLeft content reader → EndsStream content of)

-- ---- a request

-- a request's body is being received: its head is at the front of the stream, its route is known, and its content was taken so far
pub record IsReceiving (channel : ServedChannel) (stream first : List ℕ) (r : ReceivingBody) (unread : List ℕ) : Type 0 where
  pub at : HasBody channel stream first r.context (action_into r.target) r.body unread
  pub route : r.context.route ≡ Some r.route
  pub received : HasReceived r.target r.route r.taken at.content r.body

-- the discarding of a body has ended with this result, whatever bytes follow
pub record IsDiscarded (channel : ServedChannel) (stream first : List ℕ) (context : RequestContext) (route : Route) (last : BodyFraming) (unread : List ℕ) (result : Result (Unit {0}) DiscardEnd) : Type 0 where
  pub at : HasBody channel stream first context Discard last unread
  pub route_is : context.route ≡ Some route
  pub discarded : (later : List ℕ) → DiscardsBody at.content last (unread ++ later) result

-- the ingesting of an encoder's body has ended with this result, whatever bytes follow
pub record IsIngested (channel : ServedChannel) (stream first : List ℕ) (r : ReceivingBody) (encoder : IngestTarget) (unread : List ℕ) (result : Result (Unit {0}) IngestStop) : Type 0 where
  pub at : HasBody channel stream first r.context Ingest r.body unread
  pub route_is : r.context.route ≡ Some (routes.Ingest encoder)
  pub handles : (later : List ℕ) → HandlesBody encoder at.body at.content r.body (unread ++ later) (progress_of r.taken) (not (is_over r.body)) result
  -- a body that has ended early gets a response if its framing is bad
  pub replied : (end : BodyEnd) → result ≡ Err (ingest_stops.Stopped end) → end ≡ bodies.BadFraming

-- a body without acts was discarded with this result
abbrev pub DiscardsSo : ServedChannel → List ℕ → List ℕ → ReceivingBody → List ℕ → Result (Unit {0}) DiscardEnd → Type 0
DiscardsSo channel stream first r unread result = (r.taken.acts ≡ []) × IsDiscarded channel stream first r.context r.route r.body unread result

-- the receiving of a body has ended with this result: it was discarded or ingested
abbrev pub IsReceived : ServedChannel → List ℕ → List ℕ → ReceivingBody → BodyTarget → List ℕ → Result (Unit {0}) IngestStop → Type 0
IsReceived channel stream first r (Encoder encoder reader) unread result = IsIngested channel stream first r encoder unread result
IsReceived channel stream first r (Nothing room) unread (Ok done) = DiscardsSo channel stream first r unread (Ok tt)
IsReceived channel stream first r (Nothing room) unread (Err (ingest_stops.Stopped bodies.BadFraming)) = DiscardsSo channel stream first r unread (Err (discards.Stopped bodies.BadFraming))
IsReceived channel stream first r (Nothing room) unread (Err stop) = ⊥

-- what receiving some bytes of a body leads to: there is more to do, more bytes are needed, the body is too large, or it has ended
abbrev pub ReceiveProgresses : ServedChannel → List ℕ → List ℕ → ReceivingBody → List ℕ → BodyProgress → Type 0
ReceiveProgresses channel stream first r unread More = IsReceiving channel stream first r unread
ReceiveProgresses channel stream first r unread Wait = IsReceiving channel stream first r unread × IsOpen r.body unread
ReceiveProgresses channel stream first r unread TooLarge = DiscardsSo channel stream first r unread (Err discards.TooLarge)
ReceiveProgresses channel stream first r unread (Done result) = IsReceived channel stream first r r.target unread result

-- a step of receiving leads from any request whose body is received to this progress, whatever came before
abbrev pub ReceivesFrom : ReceivingBody → List ℕ → ReceivingBody → List ℕ → BodyProgress → Type 0
ReceivesFrom old unread new rest progress = (channel : ServedChannel) (stream first : List ℕ) → IsReceiving channel stream first old unread → ReceiveProgresses channel stream first new rest progress

-- ---- a response that waits

-- how many seconds a head lets its response wait, if it does
abbrev pub preferred_wait : RequestHead → Option ℕ
preferred_wait h = wait_of_values (values (codes "prefer") (fields_of h))

-- the number of the client that a head names
abbrev pub client_of : RequestHead → ℕ
client_of h = client_of_values (values (codes "x-client") (fields_of h))

-- the head lets the response wait for a job, and there are no acts; or the plan of a programme was awaited when it was asked for
abbrev pub IsAsked : RequestHead → Awaited → List Act → Type 0
IsAsked h (awaits.Job id) acts = (is_some (preferred_wait h) ≡ true) × (acts ≡ [])
IsAsked h (awaits.Plan plan) acts = AwaitsPlanOf (client_of h) (programme_query_in plan.start plan.stop (query_of h.target)) [] acts plan.request

-- a request for a job's status or for a programme, whose body was discarded whole, and whose response may wait
pub record IsWaiting (channel : ServedChannel) (stream first : List ℕ) (w : WaitingResponse) (unread : List ℕ) : Type 0 where
  pub last : BodyFraming
  pub discarded : IsDiscarded channel stream first w.context (awaited_route w.awaited) last unread (Ok tt)
  pub waits : may_wait (method_of discarded.at.head.method) ≡ true
  pub asked : IsAsked discarded.at.head w.awaited w.acts

-- ---- a response that is made in parts

-- a request whose body was discarded whole, and whose response is being made in parts, with these acts
pub record IsWriting (channel : ServedChannel) (stream first : List ℕ) (w : WritingResponse) (unread : List ℕ) : Type 0 where
  pub last : BodyFraming
  pub discarded : IsDiscarded channel stream first w.context w.route last unread (Ok tt)
  pub answers : IsResponse (params_of channel discarded.at.head) w.route [] w.acts w.response
