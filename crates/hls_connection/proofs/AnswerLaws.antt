-- A request is answered once no more of its body is read.
use Rattle.hls_api.specs.declared.route.IngestTarget.{IngestTarget}
use Rattle.hls_api.specs.declared.route.ServedChannel.{ServedChannel}
use Rattle.std.specs.Option.{is_some}
use Rattle.std.proofs.Common.{◌≡◌, ◌∙◌, ℕ, not, List, ◌++◌, Option, Result, Err, refl, sym, subst, true}
use Rattle.httparse.specs.Grammar.{RequestHead}
use Rattle.hls_core.specs.declared.feed_fault.StreamFault.{StreamFault}
use Rattle.hls_http.specs.{declared.framing.BodyFraming.BodyFraming, declared.request_action.RequestAction.RequestAction, Actions.is_over}
use Rattle.hls_http.specs.declared.{end.{BodyEnd.BodyEnd, DiscardEnd.DiscardEnd}, fault.HttpFault.TheVariants.BadFraming}
use Rattle.hls_api.specs.Exchanges.{DueResponse, IngestsBy, HandlesBy, IsDue, IsExchange, IsIngestDue, IsDiscardDue, DiscardsBy, continue_prefix, request_of}
use Rattle.hls_api.specs.{Responses.fault_answer, declared.{ingest.IngestStop.IngestStop, route.Route.Route}, Acts.Act}
use Rattle.hls_connection.specs.{declared.request_context.RequestContext.RequestContext, declared.receive.ReceivingBody.ReceivingBody, declared.state.Transition.Transition, IngestStates.progress_of}
use Rattle.hls_connection.specs.{States.RespondsTo, States.RespondsWith, WithinBody.HasBody, RequestContexts.IsContextOf, WithinBody.IsDiscarded, WithinBody.IsIngested, WithinBody.IsReceived, WithinBody.is_mended_into}
use Rattle.hls_connection.{specs.declared.receive.BodyTarget.BodyTarget, proofs.CallLaws.replies_by}
use Rattle.hls_http.specs.declared.end.BodyEnd.TheVariants as bodies
use Rattle.hls_api.specs.declared.ingest.IngestStop.TheVariants as ingest_stops
use Rattle.hls_connection.specs.declared.receive.BodyTarget.TheVariants as targets

-- if what follows the head is handled as its action says, the stream begins with this request, its acts and its reply
exchange : {channel : ServedChannel} {stream first : List ℕ} {context : RequestContext} {action : BodyFraming → RequestAction} {last : BodyFraming} {unread : List ℕ} (at : HasBody channel stream first context action last unread) (acts : List Act) (due : DueResponse) (later : List ℕ)
    → HandlesBy (action at.body) (request_of channel at.head) (at.following ++ later) acts due (unread ++ later) → IsExchange channel (stream ++ later) acts due (unread ++ later)
exchange {channel} {unread} at acts due later follows = record {
  head = at.head;
  following = at.following ++ later;
  reads = at.reads later;
  follows = subst (λ (p : RequestAction). HandlesBy p (request_of channel at.head) (at.following ++ later) acts due (unread ++ later)) (sym at.plan_is) follows;
}

-- a step that sends the reply due for a discarded body answers its request
pub replies_discarded : {channel : ServedChannel} {stream first : List ℕ} {context : RequestContext} {route : Route} {last : BodyFraming} {unread : List ℕ} {result : Result (Unit {0}) DiscardEnd}
    (x : IsDiscarded channel stream first context route last unread result) (acts : List Act) {step : Transition} {Is : DueResponse → Type 0}
    → ((due : DueResponse) → Is due → IsDiscardDue (request_of channel x.at.head) route acts due result)
    → RespondsWith Is (continue_prefix x.at.head (request_of channel x.at.head).action) acts step → RespondsTo channel stream first acts unread step
replies_discarded {channel} {last} {unread} {result} x acts skipped =
    let request = request_of channel x.at.head in
    replies_by x.at.first_is (λ due is later. exchange x.at acts due later (
    subst (λ (r : Option Route). DiscardsBy r request x.at.body (x.at.following ++ later) acts due (unread ++ later)) (sym x.route_is ∙ x.at.is_context.route)
    (record { content = x.at.content; last = last; runs = x.at.runs later; result = result; discards = x.discarded later; skipped = skipped due is })
    ))

-- a step that sends the reply due for an encoder's body answers its request
pub replies_ingested : {channel : ServedChannel} {stream first : List ℕ} {r : ReceivingBody} {encoder : IngestTarget} {unread : List ℕ} {result : Result (Unit {0}) IngestStop} (x : IsIngested channel stream first r encoder unread result)
    {step : Transition} {Is : DueResponse → Type 0} → ((due : DueResponse) → Is due → IsIngestDue encoder x.at.head (request_of channel x.at.head).action (not (is_over r.body)) (progress_of r.taken) due result)
    → RespondsWith Is (continue_prefix x.at.head (request_of channel x.at.head).action) r.taken.acts step → RespondsTo channel stream first r.taken.acts unread step
replies_ingested {channel} {r} {unread} {result} x ingested =
    let request = request_of channel x.at.head in
    replies_by x.at.first_is (λ due is later. exchange x.at r.taken.acts due later (
    subst (λ (route : Option Route). IngestsBy route request x.at.body (x.at.following ++ later) r.taken.acts due (unread ++ later)) (sym x.route_is ∙ x.at.is_context.route) (record {
      content = x.at.content;
      last = r.body;
      runs = x.at.runs later;
      progress = progress_of r.taken;
      asked = refl;
      early = not (is_over r.body);
      result = result;
      handles = x.handles later;
      ingested = ingested due is;
    })
    ))

-- a body that was refused for its content is an encoder's
pub refused_ingest : {channel : ServedChannel} {stream first : List ℕ} {r : ReceivingBody} {unread : List ℕ} (target : BodyTarget) (fault : StreamFault) → IsReceived channel stream first r target unread (Err (ingest_stops.Refused fault))
    → (encoder : IngestTarget) × (is_mended_into target ≡ is_some encoder.mending) × IsIngested channel stream first r encoder unread (Err (ingest_stops.Refused fault))
refused_ingest (targets.Nothing room) fault x = absurd x
refused_ingest (targets.Encoder encoder reader) fault x = (encoder, refl, x)

-- a body whose receiving ended with an allocation failure is an encoder's
pub memory_ingest : {channel : ServedChannel} {stream first : List ℕ} {r : ReceivingBody} {unread : List ℕ} (target : BodyTarget) → IsReceived channel stream first r target unread (Err ingest_stops.Memory)
    → (encoder : IngestTarget) × IsIngested channel stream first r encoder unread (Err ingest_stops.Memory)
memory_ingest (targets.Nothing room) x = absurd x
memory_ingest (targets.Encoder encoder reader) x = (encoder, x)

-- a step that sends 400 BadFraming for a body with bad framing answers its request
pub replies_broken : {channel : ServedChannel} {first : List ℕ} {step : Transition} (stream : List ℕ) (r : ReceivingBody) (unread : List ℕ) (target : BodyTarget) (end : BodyEnd) → IsReceived channel stream first r target unread (Err (ingest_stops.Stopped end))
    → ((h : RequestHead) (action : RequestAction) → IsContextOf channel h r.context → RespondsWith (IsDue h action (fault_answer BadFraming) true) (continue_prefix h action) r.taken.acts step) → RespondsTo channel stream first r.taken.acts unread step
replies_broken {channel} stream r unread (targets.Nothing room) bodies.BadFraming (nothing, x) refused =
    replies_discarded x _ (λ due is. (nothing, is)) (refused x.at.head (request_of channel x.at.head).action x.at.is_context)
replies_broken stream r unread (targets.Nothing room) end x refused = absurd x
replies_broken {channel} stream r unread (targets.Encoder encoder reader) end x refused =
    replies_ingested x (λ due is. rw (x.replied end refl) is) (refused x.at.head (request_of channel x.at.head).action x.at.is_context)
