-- What contracts say of a connection: its whole history, and what its keeper has to know.
use Rattle.hls_api.specs.declared.route.ServedChannel.{ServedChannel}
use Rattle.std.specs.Prelude.{◌≡◌, ◌<◌, ℕ, List, length, Option}
use Rattle.hls_event_loop.specs.declared.activity.ConnectionStage.{ConnectionStage}
use Rattle.hls_api.specs.{Acts.Knowledge, ConnectionStates.{History, Stage}, ActLinks.IsLaterKnowledge}
use Rattle.hls_connection.specs.{declared.connection.Connection.Connection, declared.events.SessionEvent.SessionEvent, declared.state.ConnectionState.ConnectionState}
use Rattle.hls_connection.specs.{States.read_failure_event_in, States.stage_of, Waits.AnswersDue, Waits.deadline_in, WithinBody.BodyIsBetweenParts, WithinBody.status_into}
use Rattle.hls_connection.specs.Traces.{IsSuitedTo, TraceIsIdleOrBlocked, TraceWaits, WantsMore, history_of, trace_of}
use Rattle.hls_event_loop.specs.declared.activity.ConnectionStage.TheVariants as stages
use Rattle.hls_connection.specs.declared.state.ConnectionState.TheVariants as states
use Rattle.hls_connection.specs.Traces as traces

-- all that a connection received, did and sent so far
abbrev pub history : Connection → History
history v = history_of (trace_of v.memory)

-- the state of a connection
abbrev pub state_of : Connection → ConnectionState
state_of v = (trace_of v.memory).state

-- where a connection is: between two requests, within one, or at its end
abbrev pub stage : Connection → Stage
stage v = stage_of (state_of v)

-- the channel that a connection serves
abbrev pub channel_of : Connection → ServedChannel
channel_of v = (trace_of v.memory).channel

-- the connection has to be read from: nothing is to be sent, it isn't at its end, no response waits, and there is room
abbrev pub WantsRead : Connection → Type 0
WantsRead v = WantsMore (trace_of v.memory)

-- no more steps can be made now: something is to be sent, the connection is at its end, or it needs more bytes and has room for them
abbrev pub IsIdleOrBlocked : Connection → Type 0
IsIdleOrBlocked v = TraceIsIdleOrBlocked (trace_of v.memory)

-- a response waits, and nothing is to be sent
abbrev pub Waits : Connection → Type 0
Waits v = TraceWaits (trace_of v.memory)

-- the deadline of the response that waits, if one does
abbrev pub deadline : Connection → Option ℕ
deadline v = deadline_in (state_of v)

-- For a response that waited, the job or plan was looked up: while that is unfinished and the deadline is ahead, the response still waits;
-- else what is pending is the answer that shows it as it was found.
abbrev pub AnswersWait : Option ℕ → Connection → Connection → Type 0
AnswersWait now old new = AnswersDue now (state_of old) (state_of new) (history new).pending

-- how many more steps the connection makes at most if it receives no more bytes
abbrev pub steps_left : Connection → ℕ
steps_left v = traces.trace_steps_left (trace_of v.memory)

-- ---- what it waits for

-- What a connection waits for if nothing is to be sent: for a request, whose head has begun or not; for more of a body;
-- for a job or plan; or for nothing, while a response is made or after its end.
abbrev pub HasStatus : ConnectionStage → ConnectionState → List ℕ → Type 0
HasStatus stages.Idle states.Head unread = length unread ≡ 0
HasStatus stages.Head states.Head unread = 0 < length unread
HasStatus stages.Waiting (states.Wait w) unread = Unit {0}
HasStatus stages.Writing (states.Write w) unread = Unit {0}
HasStatus stages.Lingering (states.Ended end) unread = Unit {0}
HasStatus waits (states.Receive r) unread = waits ≡ status_into r.target
HasStatus waits state unread = ⊥

-- the stage that a connection reports: it sends if something is pending; else it is by what the connection waits for
abbrev pub IsStatus : ConnectionStage → Connection → Type 0
IsStatus stages.Responding v = 0 < length (history v).pending
IsStatus waits v = (length (history v).pending ≡ 0) × HasStatus waits (state_of v) (history v).unread

-- the state receives an encoder's body in chunks, everything received was taken, and nothing of the body's next part was received
abbrev pub StateIsBetweenParts : ConnectionState → Type 0
StateIsBetweenParts (states.Receive r) = BodyIsBetweenParts r
StateIsBetweenParts state = ⊥

-- nothing is pending or unread, and an encoder's body in chunks is received up to the end of one of its parts
pub record IsBetweenParts (v : Connection) : Type 0 where
  pub sent : length (history v).pending ≡ 0
  pub read : length (history v).unread ≡ 0
  pub between : StateIsBetweenParts (state_of v)

-- the event for a failed read, if a body is received
abbrev pub read_failure_event : Connection → Option SessionEvent
read_failure_event v = read_failure_event_in (state_of v)

-- ---- its keeper

-- The keeper suits the connection: the states of the keeper's acts for it follow each other, up to what the keeper knows; others may have
-- acted between.
abbrev pub KeeperSuits : Knowledge → Connection → Type 0
KeeperSuits known v = IsSuitedTo known (trace_of v.memory)

-- ---- laws

-- a keeper that suits a connection still suits it after others used the keeper
abbrev pub SuitsIsStable : Type 0
SuitsIsStable = (a b : Knowledge) (v : Connection) → KeeperSuits a v → IsLaterKnowledge a b → KeeperSuits b v
