-- A connection's trace, from one call to the next.
use Rattle.hls_api.specs.declared.route.ServedChannel.{ServedChannel}
use Rattle.std.proofs.{Common.{◌≡◌, ◌∙◌, ℕ, List, [], length, take, drop, append_assoc, refl, sym, subst, ap}, lemmas.List.take-append-drop}
use Rattle.hls_core_laws.specs.{IsState.IsState}
use Rattle.hls_api.specs.{Acts.{Act, ActsExtend, Knowledge}, OtherActors.OtherActors, ConnectionStates.History}
use Rattle.hls_api.specs.ActLinks.{IsLaterKnowledge, AreLinked}
use Rattle.hls_api.proofs.Callers.{acted_none, acted_on, later_itself, linked_acted, linked_follows, linked_later}
use Rattle.hls_connection.specs.{declared.machine.ConnectionNotes.ConnectionNotes, declared.receive.BodyTarget.BodyTarget, declared.receive.ReceivingBody.ReceivingBody, declared.state.ConnectionState.ConnectionState, declared.state.Transition.Transition, Histories.new_history}
use Rattle.hls_connection.specs.{declared.ingest_sink.IngestState.IngestState, WithinBody.IsReceiving, WithinBody.SuitsTarget}
use Rattle.hls_connection.specs.declared.connection.ConnectionMemory.{ConnectionMemory}
use Rattle.hls_connection.specs.States.{IsConsistent, StepStaysConsistent, SuitsState, acts_of_step, current_acts}
use Rattle.hls_connection.specs.Traces.{Advances, ConnectionTrace, HasNothing, IsConsistentTrace, IsFresh, IsSuited, IsSuitedTo, all_acts, history_of, idle_machine, trace_after_send, trace_after_step, trace_at, trace_of}
use Rattle.hls_connection.proofs.{HoldLaws.holds_sent, PassLaws.acted_behind, PassLaws.usable_after}
use Rattle.hls_connection.specs.declared.receive.BodyTarget.TheVariants as targets
use Rattle.hls_connection.specs.declared.state.ConnectionState.TheVariants as states
use Rattle.hls_connection.specs.declared.connection.ConnectionMemory.TheVariants as places

-- ---- an idle connection

-- the history of an idle connection with fresh notes is that of a new connection
pub idle_history : (channel : ServedChannel) (notes : ConnectionNotes) → IsFresh notes → history_of (trace_at (idle_machine channel notes) []) ≡ new_history
idle_history channel notes fresh = rw (fresh.acts, fresh.reads, fresh.writes)

-- an idle connection with fresh notes is consistent
pub idle_holds : (channel : ServedChannel) (notes : ConnectionNotes) → IsFresh notes → IsConsistentTrace (trace_at (idle_machine channel notes) [])
idle_holds channel notes fresh = rw (fresh.acts, fresh.reads, fresh.writes)
    (record { over = []; rest = []; serves = λ later. refl; acts = []; asked_is = refl; text = []; written = refl; stage_is = (refl, refl, refl) })

-- ---- what is read and sent

-- a consistent connection stays consistent when the first `count` of its pending bytes are sent
pub sends_holds : (c : ConnectionTrace) (count : ℕ) → IsConsistentTrace c → IsConsistentTrace (trace_after_send c count)
sends_holds c count h = holds_sent (take count c.past.pending) (drop count c.past.pending) (sym (take-append-drop count c.past.pending)) h

-- ---- what the keeper knows

-- a keeper that suits a body still suits it with later knowledge
target_later : (a b : Knowledge) (target : BodyTarget) (taken : IngestState) → IsState b.seen → IsLaterKnowledge a b → SuitsTarget a target taken → SuitsTarget b target taken
target_later a b (targets.Nothing room) taken valid later suits = tt
target_later a b (targets.Encoder encoder reader) taken valid later suits = usable_after encoder.rendition a b taken.init valid later.follows suits

-- a keeper that suits a state still suits it with later knowledge
suits_in : (a b : Knowledge) (state : ConnectionState) → IsState b.seen → IsLaterKnowledge a b → SuitsState a state → SuitsState b state
suits_in a b (states.Receive r) valid later suits = (target_later a b r.target r.taken valid later suits.0, suits.1)
suits_in a b state valid later suits = suits

-- a keeper that suits a connection has seen a valid state
pub suited_valid : {known : Knowledge} {channel : ServedChannel} {acts : List Act} {state : ConnectionState} → IsSuited known channel acts state → IsState known.seen
suited_valid {known} {channel} {acts} x = (linked_follows acts x.first known x.valid x.linked).0

-- a keeper that suits a connection still suits it with later knowledge
pub suited_later : (a b : Knowledge) (c : ConnectionTrace) → IsSuitedTo a c → IsLaterKnowledge a b → IsSuitedTo b c
suited_later a b c x later =
    let linked = linked_later (all_acts c) x.first a b x.linked later in
    let valid = (linked_follows (all_acts c) x.first b x.valid linked).0 in
    record { first = x.first; valid = x.valid; count_is = x.count_is; linked = linked; body = suits_in a b c.state valid later x.body }

-- a keeper that saw a valid state with as many renditions suits a connection without acts between requests
pub suited_new : {known : Knowledge} {channel : ServedChannel} {acts : List Act} → IsState known.seen → channel.renditions ≡ length known.seen.config.renditions → acts ≡ [] → IsSuited known channel acts states.Head
suited_new {known} valid count_is nothing = record {
  first = known;
  valid = valid;
  count_is = count_is;
  linked = subst (λ (acts : List Act). AreLinked known acts known) (sym nothing) (later_itself known);
  body = tt;
}

-- ---- steps

-- a connection that does nothing advances to itself
pub advances_none : (m : OtherActors) {known : Knowledge} {c : ConnectionTrace} → IsSuitedTo known c → Advances m known c known c
advances_none m {known} {c} suits = record {
  suits = suits;
  holds = λ h. h;
  acted = acted_none m known (all_acts c);
  quiet = record { received = refl; ended = refl; sent = refl };
  channel = refl;
}

-- if a keeper suits a connection, it does after acts that lead from its knowledge to a state that it suits
suited_after : (m : OtherActors) {a b : Knowledge} {channel : ServedChannel} {before after : List Act} {old new : ConnectionState} → IsSuited a channel before old → ActsExtend m a before b after → SuitsState b new → IsSuited b channel after new
suited_after m {a} {b} {channel} {before} {after} x acted body = record {
  first = x.first;
  valid = x.valid;
  count_is = x.count_is;
  linked = linked_acted m x.first a b before after x.linked acted;
  body = body;
}

-- a connection advances by a step that keeps it consistent, whose acts lead from what the keeper knew to what it knows
pub advances_step : (m : OtherActors) {a b : Knowledge} (c : ConnectionTrace) (step : Transition) (unread : List ℕ) → IsSuitedTo a c → c.past.pending ≡ []
    → StepStaysConsistent c.channel c.past.ended c.state c.past.unread step unread → ActsExtend m a (current_acts c.state) b (acts_of_step step) → SuitsState b step.state
    → Advances m a c b (trace_after_step (record c { past = record c.past { unread = unread } }) step)
advances_step m {a} {b} c step unread suits empty goes act_steps body =
    let acted = acted_behind m c.past.acts a b (current_acts c.state) (append_assoc c.past.acts step.acts (current_acts step.state)) act_steps in
    record {
      suits = suited_after m suits acted body;
      holds = λ h. goes c.past.received c.past.sent c.past.acts (subst (λ (t : List ℕ). IsConsistent c.channel c.state (record c.past { pending = t })) empty h);
      acted = acted;
      quiet = record { received = refl; ended = refl; sent = refl };
      channel = refl;
    }

-- a connection whose body is received further stays consistent
pub receives : {channel : ServedChannel} {old new : ReceivingBody} {h : History} (unread : List ℕ) → ((stream first : List ℕ) → IsReceiving channel stream first old h.unread → IsReceiving channel stream first new unread)
    → IsConsistent channel (states.Receive old) h → IsConsistent channel (states.Receive new) (record h { unread = unread })
receives {h} unread goes x = record {
  over = x.over;
  rest = x.rest;
  serves = x.serves;
  acts = x.acts;
  asked_is = x.asked_is;
  text = x.text;
  written = x.written;
  stage_is = (goes x.rest x.text x.stage_is.0, x.stage_is.1);
}

-- a connection advances to another state of the same request that keeps it consistent, with acts that lead on
pub advances_within : (m : OtherActors) {a b : Knowledge} (c : ConnectionTrace) (state : ConnectionState) (unread : List ℕ) → IsSuitedTo a c
    → (IsConsistent c.channel c.state c.past → IsConsistent c.channel state (record c.past { unread = unread })) → ActsExtend m a (current_acts c.state) b (current_acts state) → SuitsState b state
    → Advances m a c b (record c { state = state; past = record c.past { unread = unread } })
advances_within m {a} {b} c state unread suits goes act_steps body =
    let acted = acted_behind m c.past.acts a b (current_acts c.state) refl act_steps in
    record {
      suits = suited_after m suits acted body;
      holds = goes;
      acted = acted;
      quiet = record { received = refl; ended = refl; sent = refl };
      channel = refl;
    }

-- two advances in a row are one
pub advances_on : (m : OtherActors) {a b c : Knowledge} {old here new : ConnectionTrace} → Advances m a old b here → Advances m b here c new → Advances m a old c new
advances_on m {a} {b} {c} {old} {here} {new} x y = record {
  suits = y.suits;
  holds = λ h. y.holds (x.holds h);
  acted = acted_on m a b c (all_acts old) (all_acts here) (all_acts new) x.acted y.acted;
  quiet = record { received = y.quiet.received ∙ x.quiet.received; ended = y.quiet.ended ∙ x.quiet.ended; sent = y.quiet.sent ∙ x.quiet.sent };
  channel = y.channel ∙ x.channel;
}

-- ---- with or without memory of its own

-- a connection that received nothing has the history of a new one
pub nothing_history : (memory : ConnectionMemory) (channel : ServedChannel) → HasNothing memory channel → history_of (trace_of memory) ≡ new_history
nothing_history (places.Idle own notes) channel x = idle_history own notes x.1
nothing_history (places.Active b) channel x = absurd x

-- a connection that received nothing serves the channel for which it was made
pub nothing_channel : (memory : ConnectionMemory) (channel : ServedChannel) → HasNothing memory channel → (trace_of memory).channel ≡ channel
nothing_channel (places.Idle own notes) channel x = x.0
nothing_channel (places.Active b) channel x = absurd x

-- a connection that received nothing is consistent
pub nothing_holds : (memory : ConnectionMemory) (channel : ServedChannel) → HasNothing memory channel → IsConsistentTrace (trace_of memory)
nothing_holds (places.Idle own notes) channel x = idle_holds own notes x.1
nothing_holds (places.Active b) channel x = absurd x

-- a keeper that saw a valid state with as many renditions suits a connection that received nothing
pub nothing_suits : {known : Knowledge} (memory : ConnectionMemory) (channel : ServedChannel) → HasNothing memory channel → IsState known.seen → channel.renditions ≡ length known.seen.config.renditions → IsSuitedTo known (trace_of memory)
nothing_suits (places.Idle own notes) channel x valid is = suited_new valid (ap (λ (c : ServedChannel). c.renditions) x.0 ∙ is) (rw x.1.acts)
nothing_suits (places.Active b) channel x valid is = absurd x
