-- For the proofs of this crate; no public clause cites it.
-- A session between its beginning and its end: what it read, did and wrote so far.
use Rattle.std.specs.Prelude.{◌≡◌, ℕ, List, [], ◌++◌, length, Option, Some, None, IsTrue}
use Rattle.hls_io.specs.Counted.{failures_of, inner_of}
use Rattle.hls_http.specs.declared.{end.SessionEnd.SessionEnd, session.Session.Session}
use Rattle.hls_http.specs.BufferedReader.{unread_of, read_failures, reader_of}
use Rattle.hls_api.specs.{Acts.ActsExtend, Acts.Knowledge, OtherActors.OtherActors}
use Rattle.hls_connection.specs.{declared.machine.ConnectionMachine.ConnectionMachine, FailureCounts.CountsSession}
use Rattle.hls_connection.specs.Traces.{ConnectionTrace, IsConsistentTrace, IsSuitedTo, all_acts, trace_at}
use Rattle.hls_api.specs.Routes.{unmended_channel}
use Rattle.hls_api.specs.Sessions as spec

-- a moment of a session: its connection, the bytes still to be read and those written, if they are known,
-- how many reads and writes failed, and what its keeper knows
pub record SessionMoment : Type 0 where
  pub at : ConnectionTrace
  pub left : Option (List ℕ)
  pub contents : Option (List ℕ)
  pub reads : ℕ
  pub writes : ℕ
  pub known : Knowledge

-- the moment of a session with this connection and this keeper, by functions that return the reader's remaining bytes and the writer's contents
abbrev pub moment : {R W : Type 0} → (R → Option (List ℕ)) → (W → Option (List ℕ)) → ConnectionMachine → Session R W → Knowledge → SessionMoment
moment remaining contents machine session known = record {
  at = trace_at machine (unread_of session.source);
  left = remaining (reader_of session.source);
  contents = contents (inner_of session.writer);
  reads = read_failures session.source;
  writes = failures_of session.writer;
  known = known;
}

-- the acts of the connection since the first moment lead from what the keeper knew then to what it knows now, and the keeper suits
abbrev pub HasActed : OtherActors → Knowledge → Knowledge → ConnectionTrace → Type 0
HasActed between first now c = IsSuitedTo now c × (c.channel ≡ unmended_channel (length first.seen.config.renditions)) × ActsExtend between first [] now (all_acts c)

-- From the first moment to now: the unread and the remaining bytes were received, except those still remaining;
-- the input's end was received only if nothing remains; all that was sent is written; and no call failed.
pub record HasRun (m : OtherActors) (first now : SessionMoment) : Type 0 where
  pub past_acts : HasActed m first.known now.known now.at
  pub holds : IsConsistentTrace now.at
  pub read_log : (input : List ℕ) → first.left ≡ Some input
      → (later : List ℕ) × (now.left ≡ Some later) × (first.at.past.unread ++ input ≡ now.at.past.received ++ later) × (IsTrue now.at.past.ended → later ≡ [])
  pub written : (out : List ℕ) → first.contents ≡ Some out → now.contents ≡ Some (out ++ now.at.past.sent)
  pub quiet : (now.reads ≡ first.reads) × (now.writes ≡ first.writes)

-- the session ran from the first moment to its end as the definition of sessions says; a failure is reported only if one was counted
abbrev pub HasRunToEnd : OtherActors → SessionMoment → SessionMoment → SessionEnd → Type 0
HasRunToEnd m first now end =
    ((input out : List ℕ) → first.left ≡ Some input → first.contents ≡ Some out → spec.Session m first.known (first.at.past.unread ++ input) out now.contents now.known end)
    × CountsSession end first.reads now.reads first.writes now.writes

-- the session has run from the first moment to now, or to this end
abbrev pub HasRunOrEnded : OtherActors → SessionMoment → SessionMoment → Option SessionEnd → Type 0
HasRunOrEnded m first now None = HasRun m first now
HasRunOrEnded m first now (Some end) = HasRunToEnd m first now end

-- every session that ran from some first moment to the old one has run from there to the new one, or to this end
abbrev pub ContinuesRun : OtherActors → SessionMoment → Option SessionEnd → SessionMoment → Type 0
ContinuesRun m old result new = (first : SessionMoment) → HasRun m first old → HasRunOrEnded m first new result
