-- For the proofs of this crate; public clauses cite it only in the terms of connections.
-- A connection, by all that it received, did and sent.
use Rattle.hls_api.specs.declared.route.ServedChannel.{ServedChannel}
use Rattle.std.specs.Prelude.{◌≡◌, ◌⊎◌, ◌<◌, ℕ, Bool, false, List, [], ◌++◌, flat_map, length, take, drop, Option, IsFalse, IsTrue}
use Rattle.hls_core_laws.specs.{IsState.IsState}
use Rattle.hls_api.specs.{Acts.{Act, ActsExtend, Knowledge}, OtherActors.OtherActors, ConnectionStates.History, ActLinks.AreLinked}
use Rattle.hls_connection.specs.{declared.state.ConnectionState.ConnectionState, declared.state.Transition.Transition, declared.machine.ConnectionNotes.ConnectionNotes, declared.machine.ConnectionMachine.ConnectionMachine, Histories.StaysQuiet}
use Rattle.hls_connection.specs.{declared.connection.ActiveConnection.ActiveConnection, declared.connection.ConnectionMemory.ConnectionMemory}
use Rattle.hls_connection.specs.States.{IsNotOverIn, IsConsistent, IsIdleOrWaiting, SuitsState, current_acts, steps_in}
use Rattle.hls_connection.specs.Waits.{AnswersDue, IsAhead, IsDeadline, deadline_in, waits_in}
use Rattle.hls_connection.specs.declared.connection.ConnectionMemory.TheVariants as places
use Rattle.hls_connection.specs.declared.state.ConnectionState.TheVariants as states

-- a connection: its channel, its state, and its history without the acts for the request that isn't answered yet
pub record ConnectionTrace : Type 0 where
  pub channel : ServedChannel
  pub state : ConnectionState
  pub past : History

-- the trace of a machine from its notes of reads, acts and writes, with these unread bytes
abbrev pub trace_at : ConnectionMachine → List ℕ → ConnectionTrace
trace_at w unread = record {
  channel = w.channel;
  state = w.state;
  past = record {
    received = flat_map (λ r. drop r.1 r.0.unread) w.notes.reads.items;
    ended = w.ended;
    unread = unread;
    acts = flat_map (λ acts. acts.0) w.notes.acts.items;
    sent = flat_map (λ s. take s.1 s.0) w.notes.writes.items;
    pending = w.output;
  };
}

-- all acts of a connection, those for the present request included
abbrev pub all_acts : ConnectionTrace → List Act
all_acts c = c.past.acts ++ current_acts c.state

-- the history of a connection, with all its acts
abbrev pub history_of : ConnectionTrace → History
history_of c = record c.past { acts = all_acts c }

-- the connection's state describes it after its history
abbrev pub IsConsistentTrace : ConnectionTrace → Type 0
IsConsistentTrace c = IsConsistent c.channel c.state c.past

-- ---- with or without memory of its own

-- the machine of an idle connection: it is between two requests, and nothing is pending
abbrev pub idle_machine : ServedChannel → ConnectionNotes → ConnectionMachine
idle_machine channel notes = record { channel = channel; state = states.Head; output = []; ended = false; notes = notes }

-- the trace of a connection, with or without memory of its own
abbrev pub trace_of : ConnectionMemory → ConnectionTrace
trace_of (places.Idle own notes) = trace_at (idle_machine own notes) []
trace_of (places.Active b) = trace_at b.value.machine b.value.input.unread

-- the connection has memory of its own
abbrev pub IsActive : ConnectionMemory → Type 0
IsActive (places.Idle own notes) = ⊥
IsActive (places.Active b) = Unit {0}

-- the connection has nothing to do: the input hasn't ended, nothing is pending or unread, and it is between requests
pub record IsIdle (b : ActiveConnection) : Type 0 where
  pub unended : b.machine.ended ≡ false
  pub sent : b.machine.output ≡ []
  pub state : b.machine.state ≡ states.Head
  pub unread : b.input.unread ≡ []

-- nothing was read, done or written
pub record IsFresh (notes : ConnectionNotes) : Type 0 where
  pub acts : notes.acts.items ≡ []
  pub reads : notes.reads.items ≡ []
  pub writes : notes.writes.items ≡ []

-- a connection to this channel without memory, which received, did and sent nothing
abbrev pub HasNothing : ConnectionMemory → ServedChannel → Type 0
HasNothing (places.Idle own notes) channel = (own ≡ channel) × IsFresh notes
HasNothing (places.Active b) channel = ⊥

-- ---- what is done with it

-- the trace after these bytes were read, and perhaps the input's end
abbrev pub trace_after_read : ConnectionTrace → List ℕ → Bool → ConnectionTrace
trace_after_read c more ended =
    record c { past = record c.past { received = c.past.received ++ more; ended = ended; unread = c.past.unread ++ more } }

-- the trace after the first `count` of the pending bytes were sent
abbrev pub trace_after_send : ConnectionTrace → ℕ → ConnectionTrace
trace_after_send c count = record c { past = record c.past { sent = c.past.sent ++ take count c.past.pending; pending = drop count c.past.pending } }

-- the trace after a transition
abbrev pub trace_after_step : ConnectionTrace → Transition → ConnectionTrace
trace_after_step c step = record c { state = step.state; past = record c.past { acts = c.past.acts ++ step.acts; pending = step.output } }

-- a response waits, and nothing is to be sent
abbrev pub TraceWaits : ConnectionTrace → Type 0
TraceWaits c = (length c.past.pending ≡ 0) × IsTrue (waits_in c.state)

-- Steps at one time: a response that waited still waits or is answered, one that waits has a deadline,
-- and if nothing more can be done at once, that deadline is ahead.
pub record KeepsWaits (now : Option ℕ) (old new : ConnectionTrace) (more : Bool) : Type 0 where
  pub deadline : IsDeadline now (deadline_in old.state) (deadline_in new.state)
  pub answers : length old.past.pending ≡ 0 → AnswersDue now old.state new.state new.past.pending
  pub timely : IsFalse more → TraceWaits new → IsAhead now (deadline_in new.state)

-- the connection has to be read from: nothing is to be sent, it isn't at its end, no response waits, and there is room
abbrev pub WantsMore : ConnectionTrace → Type 0
WantsMore c = IsFalse c.past.ended × (length c.past.pending ≡ 0) × IsNotOverIn c.state × (length c.past.unread < 65536) × IsFalse (waits_in c.state)

-- no more steps can be made now: something is to be sent, the connection is at its end, or it needs more bytes
abbrev pub TraceIsIdleOrBlocked : ConnectionTrace → Type 0
TraceIsIdleOrBlocked c = (0 < length c.past.pending) ⊎ IsIdleOrWaiting c.past.ended c.state c.past.unread

-- how many more steps the connection makes at most if it receives no more bytes
abbrev pub trace_steps_left : ConnectionTrace → ℕ
trace_steps_left c = steps_in c.state c.past.unread

-- ---- its keeper

-- The connection's acts lead from what some keeper knew at first to what it knows, others having acted between them;
-- so it knows the init section by which a body is read.
pub record IsSuited (known : Knowledge) (channel : ServedChannel) (acts : List Act) (state : ConnectionState) : Type 0 where
  pub first : Knowledge
  pub valid : IsState first.seen
  pub count_is : channel.renditions ≡ length first.seen.config.renditions
  pub linked : AreLinked first acts known
  pub body : SuitsState known state

-- the keeper suits the connection: it knows where all the connection's acts led
abbrev pub IsSuitedTo : Knowledge → ConnectionTrace → Type 0
IsSuitedTo known c = IsSuited known c.channel (all_acts c) c.state

-- steps read and send nothing, and a consistent connection that the keeper suits stays so
pub record Advances (m : OtherActors) (a : Knowledge) (old : ConnectionTrace) (b : Knowledge) (new : ConnectionTrace) : Type 0 where
  pub suits : IsSuitedTo b new
  pub holds : IsConsistentTrace old → IsConsistentTrace new
  pub acted : ActsExtend m a (all_acts old) b (all_acts new)
  pub quiet : StaysQuiet (history_of old) (history_of new)
  pub channel : new.channel ≡ old.channel
