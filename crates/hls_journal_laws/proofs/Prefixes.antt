-- Replays of prefixes of the events that came.
use Rattle.std.proofs.Common.{◌≡◌, ℕ, zero, suc, ◌≤◌, List, [], ◌∷◌, take, refl, sym, ap, subst, arith}
use Rattle.hls_core_laws.specs.declared.event.Event.{Event}
use Rattle.hls_core_laws.specs.Config.{ConfigData, IsConfig}
use Rattle.hls_core_laws.specs.State.{State}
use Rattle.hls_core_laws.specs.IsState.{IsState}
use Rattle.hls_core_laws.specs.Outcome.{Outcome, New, Repeated, Refused, outcome_of}
use Rattle.hls_core_laws.specs.Moves.{state_with_entry, IsFitting}
use Rattle.hls_core_laws.specs.Runs.{first_state, state_by_outcome, next_state, replayed_state, AreFitting}
use Rattle.hls_core_laws.specs.Follows.{Follows}
use Rattle.hls_core_laws.proofs.Callers.{advanced_follows, follows_itself, follows_through, first_is_state, next_is_state}
use Rattle.hls_journal_laws.specs.Replays.{PrefixesFollow}

-- the state after an event follows the one before, whatever the outcome
next_by : (s : State) (by : ℕ) (event : Event) (o : Outcome) → outcome_of s event ≡ o → IsState s → IsFitting s event → Follows s (state_by_outcome o (state_with_entry s by event) s)
next_by s by event New is state fits = advanced_follows s by event state fits is
next_by s by event Repeated is state fits = follows_itself s
next_by s by event (Refused r) is state fits = follows_itself s

-- the state after an event that fits follows the one before
next_follows : (s : State) (by : ℕ) (event : Event) → IsState s → IsFitting s event → Follows s (next_state s by event)
next_follows s by event state fits = next_by s by event (outcome_of s event) refl state fits

-- the state after events that fit follows the one before
pub replay_follows : (s : State) (events : List (ℕ × Event)) → IsState s → AreFitting s events → Follows s (replayed_state s events)
replay_follows s [] state fits = follows_itself s
replay_follows s (e ∷ es) state fits =
    follows_through s (next_state s e.0 e.1) (replayed_state (next_state s e.0 e.1) es) (next_follows s e.0 e.1 state fits.0)
    (replay_follows (next_state s e.0 e.1) es (next_is_state s e.0 e.1 state fits.0) fits.1)

-- if each event fits, so does each of the first k
pub fitting_prefix : (s : State) (past : List (ℕ × Event)) (k : ℕ) → AreFitting s past → AreFitting s (take k past)
fitting_prefix s past zero fits = tt
fitting_prefix s [] (suc k) fits = tt
fitting_prefix s (e ∷ es) (suc k) fits = (fits.0, fitting_prefix (next_state s e.0 e.1) es k fits.1)

-- the state after more of the events follows the one after fewer
pub prefix_follows : (s : State) (past : List (ℕ × Event)) (j k : ℕ) → IsState s → AreFitting s past → j ≤ k → Follows (replayed_state s (take j past)) (replayed_state s (take k past))
prefix_follows s past zero k state fits le = replay_follows s (take k past) state (fitting_prefix s past k fits)
prefix_follows s past (suc j) zero state fits le = absurd (omega (arith, le))
prefix_follows s [] (suc j) (suc k) state fits le = follows_itself s
prefix_follows s (e ∷ es) (suc j) (suc k) state fits le =
    prefix_follows (next_state s e.0 e.1) es j k (next_is_state s e.0 e.1 state fits.0) fits.1 (omega (arith, le))

-- the replay of a prefix is followed by that of a longer one
pub prefixes-follow : PrefixesFollow
prefixes-follow config past j k configured fits le = prefix_follows (first_state config) past j k (first_is_state config configured) fits le
