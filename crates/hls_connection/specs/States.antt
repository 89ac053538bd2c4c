-- For the proofs of this crate; no public clause cites it.
-- The states of a connection, and the result of a step from one to the next.
use Rattle.hls_api.specs.declared.route.ServedChannel.{ServedChannel}
use Rattle.std.specs.Prelude.{◌≡◌, ◌⊎◌, ℕ, ◌+◌, ◌*◌, ◌<◌, ◌≤◌, Bool, true, false, List, [], ◌++◌, length, Option, None, Err, IsTrue, IsFalse}
use Rattle.hls_core_laws.specs.{IsState.IsState}
use Rattle.hls_http.specs.{declared.framing.BodyFraming.BodyFraming, Bodies.IsOpen, Heads.IsUnfinished}
use Rattle.hls_api.specs.ConnectionStates.{Exchange, History, Serves, Stage, Between, Within, Over, IsBetween, IsAtStage, acts_of, output, text_of}
use Rattle.hls_api.specs.{declared.{ingest.IngestStop.TheVariants.Stopped, route.Route.Route}, Acts.{Act, Knowledge}}
use Rattle.hls_api.specs.{Sessions.IsNotOver, Exchanges.{DueResponse, IsExchange}, Ingest.no_progress}
use Rattle.hls_connection.specs.{declared.events.SessionEvent.SessionEvent, declared.receive.BodyTarget.BodyTarget, declared.request_context.RequestContext.RequestContext, declared.ingest_sink.IngestState.IngestState}
use Rattle.hls_connection.specs.{declared.state.ConnectionState.ConnectionState, declared.state.Transition.Transition, declared.state.WaitingResponse.WaitingResponse, declared.state.WritingResponse.WritingResponse}
use Rattle.hls_connection.specs.{Events.ingest_event, IngestStates.progress_of, Waits.IsDeadline, Waits.deadline_in, WithinBody.IsForTarget, WithinBody.IsReceiving, WithinBody.IsWaiting, WithinBody.IsWriting, WithinBody.SuitsTarget}
use Rattle.hls_http.specs.declared.end.BodyEnd.TheVariants as bodies
use Rattle.hls_http.specs.declared.end.SessionEnd.TheVariants as ends
use Rattle.hls_connection.specs.declared.state.ConnectionState.TheVariants as states

-- the acts for the request whose body is received or whose response waits or is made
abbrev pub current_acts : ConnectionState → List Act
current_acts (states.Receive r) = r.taken.acts
current_acts (states.Wait w) = w.acts
current_acts (states.Write w) = w.acts
current_acts state = []

-- the stage of a connection in this state
abbrev pub stage_of : ConnectionState → Stage
stage_of states.Head = Between
stage_of (states.Receive r) = Within
stage_of (states.Wait w) = Within
stage_of (states.Write w) = Within
stage_of (states.Ended end) = Over end

-- what the state says of the stream after the requests that were answered: the acts, the text and the unread bytes
abbrev pub IsInState : ConnectionState → ServedChannel → Bool → List ℕ → List Act → List ℕ → List ℕ → Type 0
IsInState states.Head channel ended stream acts text unread = IsBetween stream acts text unread
IsInState (states.Receive r) channel ended stream acts text unread = IsReceiving channel stream text r unread × (acts ≡ [])
IsInState (states.Wait w) channel ended stream acts text unread = IsWaiting channel stream text w unread × (acts ≡ [])
IsInState (states.Write w) channel ended stream acts text unread = IsWriting channel stream text w unread × (acts ≡ [])
IsInState (states.Ended end) channel ended stream acts text unread = IsAtStage (Over end) channel ended stream acts text unread

-- the state describes the connection after a history whose acts are those for the answered requests, and not those for the present one
pub record IsConsistent (channel : ServedChannel) (state : ConnectionState) (h : History) : Type 0 where
  pub over : List Exchange
  pub rest : List ℕ
  pub serves : (later : List ℕ) → Serves channel (h.received ++ later) over (rest ++ later)
  pub acts : List Act
  pub asked_is : h.acts ≡ acts_of over ++ acts
  pub text : List ℕ
  pub written : output h ≡ text_of over ++ text
  pub stage_is : IsInState state channel h.ended rest acts text h.unread

-- the keeper suits the state: it has seen the init section by which a body is read
abbrev pub SuitsState : Knowledge → ConnectionState → Type 0
SuitsState known (states.Receive r) = SuitsTarget known r.target r.taken × IsForTarget r.target r.route r.context
SuitsState known state = Unit {0}

-- whether a body is received in this state
abbrev pub is_receiving : ConnectionState → Bool
is_receiving (states.Receive r) = true
is_receiving state = false

-- the event for a read that failed in this state, if a body is received
abbrev pub read_failure_event_in : ConnectionState → Option SessionEvent
read_failure_event_in (states.Receive r) = ingest_event r (Err (Stopped bodies.ReadFailed))
read_failure_event_in state = None

-- ---- where nothing more can be done

-- the connection is at its end
abbrev pub IsOver : Stage → Type 0
IsOver (Over end) = Unit {0}
IsOver stage = ⊥

-- a connection in this state isn't at its end
abbrev pub IsNotOverIn : ConnectionState → Type 0
IsNotOverIn state = IsNotOver (stage_of state)

-- The unread bytes allow no step: between two requests they are empty or the beginning of a head, and within a body they end
-- before a step of the body. It never holds while a response waits or is made.
abbrev pub LacksMore : ConnectionState → List ℕ → Type 0
LacksMore states.Head unread = (unread ≡ []) ⊎ IsUnfinished unread
LacksMore (states.Receive r) unread = IsOpen r.body unread
LacksMore (states.Wait w) unread = ⊥
LacksMore (states.Write w) unread = ⊥
LacksMore (states.Ended end) unread = ⊥

-- the connection is at its end; or it needs more bytes, the input hasn't ended, and there is room
abbrev pub IsIdleOrWaiting : Bool → ConnectionState → List ℕ → Type 0
IsIdleOrWaiting ended state unread = IsOver (stage_of state) ⊎ (IsFalse ended × (length unread < 16384) × LacksMore state unread)

-- ---- how much is still to be done

-- how many steps a state can take before it needs another byte: a body comes before its response, which waits, or is made in 65536
-- parts at most
abbrev pub steps_of : ConnectionState → ℕ
steps_of (states.Ended end) = 0
steps_of states.Head = 1
steps_of (states.Wait w) = 2
steps_of (states.Write w) = 2 + w.parts
steps_of (states.Receive r) = 65539

-- how many steps a state with these unread bytes can take, if each unread byte may begin a request
abbrev pub steps_in : ConnectionState → List ℕ → ℕ
steps_in state unread = 65539 * length unread + steps_of state

-- after a step that reports nothing more to do the connection is idle; any other step lowers the number of steps left
pub record ReportsProgress (ended : Bool) (old : ConnectionState) (before : List ℕ) (new : ConnectionState) (after : List ℕ) (more : Bool) : Type 0 where
  pub idle_or_blocked : IsFalse more → IsIdleOrWaiting ended new after
  pub lowers : IsTrue more → steps_in new after < steps_in old before

-- the step's state suits any keeper, has at most `most` steps left, and its response, if it waits, does so for at most 30 seconds;
-- more may be done at once
pub record Proceeds (now : Option ℕ) (most : ℕ) (step : Transition) : Type 0 where
  pub suits : (known : Knowledge) → SuitsState known step.state
  pub continues : step.more ≡ true
  pub few : steps_of step.state ≤ most
  pub deadline : IsDeadline now None (deadline_in step.state)

-- ---- a step

-- a transition that sends nothing and ends no request
abbrev pub step_without_output : ConnectionState → Bool → Transition
step_without_output state more = record { state = state; output = []; acts = []; more = more }

-- the state between requests: the next head is awaited, or at the input's end the connection is closed, or cut short within a head
abbrev pub awaited_state : Bool → Bool → ConnectionState
awaited_state empty false = states.Head
awaited_state true true = states.Ended ends.Closed
awaited_state false true = states.Ended ends.CutShort

-- a body begins to be received, with no progress
abbrev pub BeginsBody : RequestContext → Route → BodyFraming → BodyTarget → Transition → Type 0
BeginsBody context route body target step = (taken : IngestState) × (progress_of taken ≡ no_progress)
    × (step ≡ record { state = states.Receive (record { context = context; route = route; body = body; target = target; taken = taken }); output = step.output; acts = []; more = true })

-- the transition at the end of the input within a body, with the acts for it
abbrev pub step_cut_short : List Act → Transition
step_cut_short acts = record { state = states.Ended ends.CutShort; output = []; acts = acts; more = false }

-- the state after a response: between requests, unless it closes the connection
abbrev pub state_after : Bool → Bool → ConnectionState
state_after false success = states.Head
state_after true true = states.Ended ends.Closed
state_after true false = states.Ended ends.Refused

-- the transition that sends a reply, with the acts for its request
abbrev pub respond_step : List ℕ → Bool → Bool → List Act → Transition
respond_step text closing success acts = record { state = state_after closing success; output = text; acts = acts; more = true }

-- the step sends a reply that is due, without the text that was written before it, and ends the request with these acts
pub record RespondsWith (Is : DueResponse → Type 0) (first : List ℕ) (acts : List Act) (step : Transition) : Type 0 where
  pub due : DueResponse
  pub is : Is due
  pub text_is : due.text ≡ first ++ step.output
  pub step_is : step ≡ respond_step step.output due.closing due.success acts

-- the step sends some reply and ends its request with these acts
pub record SendsResponse (acts : List Act) (step : Transition) : Type 0 where
  pub closing : Bool
  pub success : Bool
  pub step_is : step ≡ respond_step step.output closing success acts

-- the step answers the first request of a stream, whatever bytes follow
abbrev pub RespondsTo : ServedChannel → List ℕ → List ℕ → List Act → List ℕ → Transition → Type 0
RespondsTo channel stream first acts unread step =
    RespondsWith (λ due. (later : List ℕ) → IsExchange channel (stream ++ later) acts due (unread ++ later)) first acts step

-- a request whose body was discarded is responded to, or its response is made in parts first, or waits
abbrev pub IsHandled : ServedChannel → List ℕ → List ℕ → List ℕ → Transition → Type 0
IsHandled channel stream first unread step =
    ((acts : List Act) × RespondsTo channel stream first acts unread step)
    ⊎ ((w : WritingResponse) × (step ≡ step_without_output (states.Write w) true) × IsWriting channel stream first w unread)
    ⊎ ((w : WaitingResponse) × (step ≡ step_without_output (states.Wait w) true) × IsWaiting channel stream first w unread)

-- a step from a consistent connection with nothing pending leads to a consistent one, whatever was received and sent before
abbrev pub StepStaysConsistent : ServedChannel → Bool → ConnectionState → List ℕ → Transition → List ℕ → Type 0
StepStaysConsistent channel ended old before step after =
    (received sent : List ℕ) (past_acts : List Act)
    → IsConsistent channel old (record { received = received; ended = ended; unread = before; acts = past_acts; sent = sent; pending = [] })
    → IsConsistent channel step.state (record { received = received; ended = ended; unread = after; acts = past_acts ++ step.acts; sent = sent; pending = step.output })

-- the acts of a step: those for the request that it ends, and those for the next one
abbrev pub acts_of_step : Transition → List Act
acts_of_step step = step.acts ++ current_acts step.state

-- the step adds no acts, its state suits any keeper that saw a valid state, and no response waits in it
pub record HasNoActs (old : ConnectionState) (step : Transition) : Type 0 where
  pub same : acts_of_step step ≡ current_acts old
  pub suits : (known : Knowledge) → IsState known.seen → SuitsState known step.state
  pub awake : deadline_in step.state ≡ None
