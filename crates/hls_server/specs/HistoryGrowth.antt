-- Turns of a worker's connection, one after the other.
use Rattle.std.proofs.Common.{◌≡◌, ◌∙◌, ◌⊎◌, inl, inr, Bool, List, ℕ, ◌++◌, ◌||◌, refl, sym, ap, append_assoc, append-nil, subst}
use Rattle.std.proofs.Math.Bool.{or-false, or_assoc}
use Rattle.hls_event_loop.specs.Traffic.{Traffic, followed_by, no_traffic}
use Rattle.hls_connection.specs.{declared.connection.Connection.Connection, Connections.history, Connections.channel_of}
use Rattle.hls_api.{proofs.Callers.{acted_none, acted_on}, specs.{Acts.Knowledge, OtherActors.Others}}
use Rattle.hls_api.specs.Types.{State}
use Rattle.hls_server.specs.{HandlerConnections.{HistoryGrows, ServesHeld}, SendGates.{Covers, KeepsCovered}}
use Rattle.hls_server.specs.{declared.logged_connection.LoggedConnection.LoggedConnection, declared.send_gate.NeededPoint.NeededPoint}

-- without traffic a connection's history grows by nothing
pub grows_by_nothing : (a : Knowledge) (v : Connection) → HistoryGrows a v no_traffic a v
grows_by_nothing a v =
    let h = history v in
    record {
      received = sym (append-nil h.received);
      ended = sym (or-false h.ended);
      sent = sym (append-nil h.sent);
      acts = acted_none Others a h.acts;
      channel = refl;
    }

-- bytes that are appended in two turns are appended in sequence
grown : (before s t middle after : List ℕ) → middle ≡ before ++ s → after ≡ middle ++ t → after ≡ before ++ (s ++ t)
grown before s t middle after first second = second ∙ ap (λ (l : List ℕ). l ++ t) first ∙ append_assoc before s t

-- two turns in a row are one
pub growth_composes : {a b c : Knowledge} {u v w : Connection} (s t : Traffic) → HistoryGrows a u s b v → HistoryGrows b v t c w → HistoryGrows a u (followed_by s t) c w
growth_composes {a} {b} {c} {u} {v} {w} s t first second = record {
  received = grown (history u).received s.received t.received (history v).received (history w).received first.received second.received;
  ended = second.ended ∙ ap (λ (e : Bool). e || t.ended) first.ended ∙ or_assoc (history u).ended s.ended t.ended;
  sent = grown (history u).sent s.sent t.sent (history v).sent (history w).sent first.sent second.sent;
  acts = acted_on Others a b c (history u).acts (history v).acts (history w).acts first.acts second.acts;
  channel = second.channel ∙ first.channel;
}

-- what must be durable still covers a state if neither it nor the state changed
still_covers : (before seen : State) (was needed : NeededPoint) → seen ≡ before → needed ≡ was → Covers before was → Covers seen needed
still_covers before seen was needed same need covers =
    subst (λ (s : State). Covers s needed) (sym same) (subst (λ (n : NeededPoint). Covers before n) (sym need) covers)

-- if each of two turns in a row keeps covered what was seen, both together do
pub covered_on : (s t u : State) (l m n : NeededPoint) → KeepsCovered s l t m → KeepsCovered t m u n → KeepsCovered s l u n
covered_on s t u l m n first (inr covers) = inr covers
covered_on s t u l m n (inr covers) (inl same) = inr (still_covers t u m n same.0 same.1 covers)
covered_on s t u l m n (inl first) (inl second) = inl (second.0 ∙ first.0, second.1 ∙ first.1)

-- a turn without traffic leaves the history and what must be durable
pub serves_nothing : (a : Knowledge) (v : LoggedConnection) → ServesHeld a v no_traffic a v
serves_nothing a v = record { grows = grows_by_nothing a v.connection; covered = inl (refl, refl) }

-- two turns in a row are one, in the history and in what must be durable
pub serves_on : {a b c : Knowledge} {u v w : LoggedConnection} (s t : Traffic) → ServesHeld a u s b v → ServesHeld b v t c w → ServesHeld a u (followed_by s t) c w
serves_on {a} {b} {c} {u} {v} {w} s t first second = record {
  grows = growth_composes s t first.grows second.grows;
  covered = covered_on a.seen b.seen c.seen u.gate.needed v.gate.needed w.gate.needed first.covered second.covered;
}
