-- A session, from one moment to the next: each lemma extends a run from its first moment.
use Rattle.std.proofs.Common.{◌≡◌, ◌∙◌, ◌⊎◌, ℕ, ◌<◌, Bool, true, false, List, [], ◌++◌, length, take, drop, Option, Some, None, IsTrue, IsFalse, inl, inr, refl, sym, ap, subst, append_assoc, append-nil, arith}
use Rattle.std.{proofs.lemmas.List.{nil_from_length, take-append-drop}, specs.Io.KnownBytes.{Consumes, IsAtEnd}}
use Rattle.bytes.specs.Unread.{IsChunkOf}
use Rattle.hls_io.specs.{Failures.FailuresRose, Writing.Writes}
use Rattle.hls_http.{proofs.Callers.writes_whole, specs.declared.end.SessionEnd.SessionEnd}
use Rattle.hls_core_laws.specs.{IsState.IsState}
use Rattle.hls_api.specs.{Acts.{Act, AreActSteps, Knowledge}, OtherActors.OtherActors, ConnectionStates.{Stage, Over}, Routes.unmended_channel}
use Rattle.hls_api.{specs.Sessions.{EndsSession, IsNotOver, Session}, proofs.Callers.acted_on}
use Rattle.hls_connection.specs.{declared.machine.ConnectionNotes.ConnectionNotes, declared.state.ConnectionState.ConnectionState}
use Rattle.hls_connection.specs.Traces.{Advances, ConnectionTrace, IsFresh, TraceIsIdleOrBlocked, TraceWaits, WantsMore, all_acts, history_of, idle_machine, trace_after_read, trace_after_send, trace_at}
use Rattle.hls_connection.specs.{States.{IsInState, IsNotOverIn, IsOver, LacksMore, stage_of}, Waits.{IsAhead, deadline_in, waits_in}}
use Rattle.hls_connection.{specs.Moments.{HasRunToEnd, HasRun, SessionMoment}, proofs.HoldLaws.{holds_more, holds_sent, served_of}}
use Rattle.hls_connection.proofs.TraceLaws.{idle_holds, suited_new}
use Rattle.hls_http.specs.declared.end.SessionEnd.TheVariants as ends
use Rattle.hls_connection.specs.declared.state.ConnectionState.TheVariants as states

-- ---- known bytes

-- an input that was known is the bytes that were read and a known rest
left_of : (input more : List ℕ) (left : Option (List ℕ)) → Consumes (Some input) left more → (later : List ℕ) × (left ≡ Some later) × (input ≡ more ++ later)
left_of input more None consumes = absurd consumes
left_of input more (Some later) consumes = (later, refl, consumes)

-- the pending bytes are a chunk at their front and the rest
chunk_first : (waiting chunk : List ℕ) → IsChunkOf chunk waiting → waiting ≡ chunk ++ drop (length chunk) waiting
chunk_first waiting chunk is = sym (take-append-drop (length chunk) waiting) ∙ ap (λ xs. xs ++ drop (length chunk) waiting) is.front

-- ---- it continues

-- a session has run from its first moment to that moment, if nothing was received but the bytes that its source held
pub led_first : (between : OtherActors) (m : SessionMoment) (renditions : ℕ) (notes : ConnectionNotes) → IsFresh notes → m.at ≡ trace_after_read (trace_at (idle_machine (unmended_channel renditions) notes) []) m.at.past.unread false → IsState m.known.seen
    → renditions ≡ length m.known.seen.config.renditions → HasRun between m m
led_first between m renditions notes fresh is valid count =
    let nothing : all_acts (trace_at (idle_machine (unmended_channel renditions) notes) []) ≡ [] = rw fresh.acts in
    subst (λ (c : ConnectionTrace). HasRun between m (record m { at = c })) (sym is) (record {
      past_acts = (suited_new valid count nothing, ap unmended_channel count, ([], nothing, refl));
      holds = holds_more m.at.past.unread false tt (idle_holds (unmended_channel renditions) notes fresh);
      read_log = λ input known. (input, known, rw fresh.reads refl, λ never. absurd (cc));
      written = λ out known. rw fresh.writes (known ∙ ap Some (sym (append-nil out)));
      quiet = (refl, refl);
    })

-- if a session has run to a moment and its connection then advances, it has run to the moment after
pub led_advances : {between : OtherActors} {first m : SessionMoment} {b : Knowledge} {c : ConnectionTrace} → HasRun between first m → Advances between m.known m.at b c → HasRun between first (record m { at = c; known = b })
led_advances {between} {first} {m} {b} {c} x y = record {
  past_acts = (y.suits, y.channel ∙ x.past_acts.1, acted_on between first.known m.known b [] (all_acts m.at) (all_acts c) x.past_acts.2 y.acted);
  holds = y.holds x.holds;
  read_log = rw (y.quiet.received, y.quiet.ended) x.read_log;
  written = rw y.quiet.sent x.written;
  quiet = x.quiet;
}

-- if a session has run to a moment and then more bytes, or the input's end, are read, it has run to the moment after
pub led_hears : {between : OtherActors} {first m : SessionMoment} {now : ConnectionTrace} (more : List ℕ) (ended : Bool) {left : Option (List ℕ)} {reads : ℕ} → now ≡ trace_after_read m.at more ended → IsNotOverIn m.at.state
    → Consumes m.left left more → (IsTrue ended → IsAtEnd left) → reads ≡ m.reads → HasRun between first m → HasRun between first (record m { at = now; left = left; reads = reads })
led_hears {between} {first} {m} more ended {left} {reads} is going consumes at_end same x =
    subst (λ (c : ConnectionTrace). HasRun between first (record m { at = c; left = left; reads = reads })) (sym is) (record {
      past_acts = x.past_acts;
      holds = holds_more more ended going x.holds;
      read_log = λ input known.
          let was = x.read_log input known in
          let now = left_of was.0 more left (rw was.1 at consumes) in
          let all = was.2 ∙ ap (λ (t : List ℕ). m.at.past.received ++ t) now.2 ∙ sym (append_assoc m.at.past.received more now.0) in
          (now.0, now.1, all, λ over. rw now.1 at (at_end over));
      written = x.written;
      quiet = (same ∙ x.quiet.0, x.quiet.1);
    })

-- if a session has run to a moment and then the first of the pending bytes are written, it has run to the moment after
led_sent : {between : OtherActors} {first m : SessionMoment} (write_log waits : List ℕ) {contents : Option (List ℕ)} {writes : ℕ} → m.at.past.pending ≡ write_log ++ waits
    → ((held : List ℕ) → m.contents ≡ Some held → contents ≡ Some (held ++ write_log)) → writes ≡ m.writes → HasRun between first m
    → HasRun between first (record m { at = record m.at { past = record m.at.past { pending = waits; sent = m.at.past.sent ++ write_log } }; contents = contents; writes = writes })
led_sent {between} {first} {m} write_log waits is wrote same x = record {
  past_acts = x.past_acts;
  holds = holds_sent write_log waits is x.holds;
  read_log = x.read_log;
  written = λ out known. wrote (out ++ m.at.past.sent) (x.written out known) ∙ ap Some (append_assoc out m.at.past.sent write_log);
  quiet = (x.quiet.0, same ∙ x.quiet.1);
}

-- if a session has run to a moment and then a chunk of the pending bytes is written whole, it has run to the moment after
pub led_sends : {between : OtherActors} {first m : SessionMoment} {now : ConnectionTrace} (chunk : List ℕ) {contents : Option (List ℕ)} {writes : ℕ} → now ≡ trace_after_send m.at (length chunk) → IsChunkOf chunk m.at.past.pending
    → ((held : List ℕ) → m.contents ≡ Some held → Writes held chunk contents true) → writes ≡ m.writes → HasRun between first m
    → HasRun between first (record m { at = now; contents = contents; writes = writes })
led_sends {between} {first} {m} chunk {contents} {writes} sent is wrote same x =
    let waiting = m.at.past.pending in
    subst (λ (c : ConnectionTrace). HasRun between first (record m { at = c; contents = contents; writes = writes })) (sym sent)
    (led_sent (take (length chunk) waiting) (drop (length chunk) waiting) (sym (take-append-drop (length chunk) waiting))
    (λ held known. rw is.front (writes_whole held chunk contents (wrote held known))) same x)

-- ---- it ends

-- a run to a moment at which the session may end so is a session with this end
session_of : {between : OtherActors} {first m : SessionMoment} (end : SessionEnd) → EndsSession end (stage_of m.at.state) m.at.past.pending → HasRun between first m
    → (input out : List ℕ) → first.left ≡ Some input → first.contents ≡ Some out → Session between first.known (first.at.past.unread ++ input) out m.contents m.known end
session_of {between} {first} {m} end so x input out known there =
    let read_log = x.read_log input known in
    record {
      stage = stage_of m.at.state;
      history = history_of m.at;
      served = rw x.past_acts.1 at (served_of x.holds);
      later = read_log.0;
      received = read_log.2;
      at_end = read_log.3;
      written = x.written out there;
      act_steps = subst (λ (acts : List Act). AreActSteps between first.known acts m.known) (sym x.past_acts.2.1) x.past_acts.2.2;
      ends = so;
    }

-- a run that ends by a failed read, while the connection has to be read from, is a session with that end
pub ended_unread : {between : OtherActors} {first m : SessionMoment} {reads : ℕ} → WantsMore m.at → FailuresRose m.reads reads → HasRun between first m → HasRunToEnd between first (record m { reads = reads }) ends.ReadFailed
ended_unread {m} wants rose x =
    (session_of ends.ReadFailed (wants.2, nil_from_length m.at.past.pending wants.1) x, (rw x.quiet.0 at rose, x.quiet.1))

-- a run that ends by a failed write, after a first part of a chunk was written, is a session with that end
pub ended_unwritten : {between : OtherActors} {first m : SessionMoment} (chunk : List ℕ) (contents : Option (List ℕ)) (writes : ℕ) → IsChunkOf chunk m.at.past.pending
    → ((held : List ℕ) → m.contents ≡ Some held → Writes held chunk contents false) → FailuresRose m.writes writes → HasRun between first m
    → HasRunToEnd between first (record m { contents = contents; writes = writes }) ends.WriteFailed
ended_unwritten {first} {m} chunk contents writes is wrote rose x =
    let rest = drop (length chunk) m.at.past.pending in (
      (λ input out known there.
          let held = x.written out there in
          let w = wrote (out ++ m.at.past.sent) held in
          let waiting = chunk_first m.at.past.pending chunk is ∙ ap (λ (t : List ℕ). t ++ rest) w.split ∙ append_assoc w.written w.left rest in
          let grown : (now : List ℕ) → m.contents ≡ Some now → contents ≡ Some (now ++ w.written) = λ now same.
          let one : now ≡ out ++ m.at.past.sent = cc (same, held) in rw one w.contents_are in
          session_of ends.WriteFailed tt (led_sent w.written (w.left ++ rest) waiting grown refl x) input out known there),
      (x.quiet.0, rw x.quiet.1 at rose),
    )

-- a run to the connection's own end, with nothing pending, is a session with that end
pub ended_itself : {between : OtherActors} {first m : SessionMoment} (end : SessionEnd) → m.at.state ≡ states.Ended end → length m.at.past.pending ≡ 0 → HasRun between first m → HasRunToEnd between first m end
ended_itself {between} {first} {m} end over empty x =
    by end (subst (λ (state : ConnectionState). IsInState state m.at.channel m.at.past.ended x.holds.rest x.holds.acts x.holds.text m.at.past.unread) over x.holds.stage_is)
    (ap stage_of over, nil_from_length m.at.past.pending empty)
  where
    by : (end : SessionEnd) → IsInState (states.Ended end) m.at.channel m.at.past.ended x.holds.rest x.holds.acts x.holds.text m.at.past.unread
        → (stage_of m.at.state ≡ Over end) × (m.at.past.pending ≡ []) → HasRunToEnd between first m end
    by ends.Closed here is = (session_of ends.Closed is x, x.quiet)
    by ends.Refused here is = (session_of ends.Refused is x, x.quiet)
    by ends.CutShort here is = (session_of ends.CutShort is x, x.quiet)
    by end here is = absurd here

-- ---- a connection that waits for more

-- an open connection with nothing pending that can make no step: the input hasn't ended, more bytes are needed, and there is room
pub rests_before : (c : ConnectionTrace) → length c.past.pending ≡ 0 → IsNotOverIn c.state → TraceIsIdleOrBlocked c → IsFalse c.past.ended × LacksMore c.state c.past.unread × (length c.past.unread < 16384)
rests_before c empty going (inl some) = absurd (omega (arith, empty, some))
rests_before c empty going (inr (inl over)) = absurd (not_both (stage_of c.state) going over)
  where
    not_both : (stage : Stage) → IsNotOver stage → IsOver stage → ⊥
    not_both (Over end) going over = going
    not_both stage going over = over
rests_before c empty going (inr (inr waits)) = (waits.0, waits.2, waits.1)

-- an open connection with nothing pending that can make no step has to be read from
pub rests_open : (c : ConnectionTrace) → length c.past.pending ≡ 0 → IsNotOverIn c.state → TraceIsIdleOrBlocked c → WantsMore c
rests_open c empty going idle_or_blocked =
    let waits = rests_before c empty going idle_or_blocked in
    (waits.0, empty, going, omega (arith, waits.2), awake c.state c.past.unread waits.1)
  where
    awake : (state : ConnectionState) (unread : List ℕ) → LacksMore state unread → IsFalse (waits_in state)
    awake (states.Wait w) unread lacks = absurd lacks
    awake state unread lacks = refl

-- without a time no response waits, so a connection without more to do is idle or blocked
pub untimed : (c : ConnectionTrace) → TraceIsIdleOrBlocked c ⊎ TraceWaits c → (TraceWaits c → IsAhead None (deadline_in c.state)) → TraceIsIdleOrBlocked c
untimed c (inl idle_or_blocked) timely = idle_or_blocked
untimed c (inr waits) timely = absurd (never (deadline_in c.state) (timely waits))
  where
    never : (deadline : Option ℕ) → IsAhead None deadline → ⊥
    never (Some deadline) is = absurd (cc is)
    never None is = is
