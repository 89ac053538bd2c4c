-- Stepping through a run: where its next event leads.
use Rattle.std.proofs.Common.{◌≡◌, ◌∙◌, ℕ, ◌+◌, ◌<◌, ◌≤◌, List, ◌∷◌, length, drop, get_or, sym, ap, subst}
use Rattle.std.proofs.lemmas.List.{drop_all, drop_more}
use Rattle.hls_core_laws.specs.declared.event.Event.{Event}
use Rattle.hls_core_laws.specs.State.{State}
use Rattle.hls_core_laws.specs.Moves.{IsFitting}
use Rattle.hls_core_laws.specs.Runs.{next_state, replayed_state, AreFitting}

module _ (s : State) (events : List (ℕ × Event)) (i : ℕ) (e : ℕ × Event) (within : i < length events) (is : e ≡ get_or events i e) where
  -- the remaining events are the next one and the others
  rest-is : drop i events ≡ e ∷ drop (i + 1) events
  rest-is = drop_more events i e within ∙ ap (λ (x : ℕ × Event). x ∷ drop (i + 1) events) (sym is)

  -- if the remaining events fit, the next one does
  pub event_fits : AreFitting s (drop i events) → IsFitting s e.1
  event_fits fitting = (subst (AreFitting s) rest-is fitting).0

  -- if the remaining events fit, the others fit the state to which the next one leads
  pub rest_fits : (next : State) → next ≡ next_state s e.0 e.1 → AreFitting s (drop i events) → AreFitting next (drop (i + 1) events)
  rest_fits next stepped fitting = subst (λ (t : State). AreFitting t (drop (i + 1) events)) (sym stepped) (subst (AreFitting s) rest-is fitting).1

  -- if the remaining events lead to the last state, so do the others from the state to which the next one leads
  pub rest_told : (next last : State) → next ≡ next_state s e.0 e.1 → replayed_state s (drop i events) ≡ last → replayed_state next (drop (i + 1) events) ≡ last
  rest_told next last stepped progress = ap (λ (t : State). replayed_state t (drop (i + 1) events)) stepped ∙ sym (ap (replayed_state s) rest-is) ∙ progress

-- if no event remains and the remaining events lead to the last state, this is the last state
pub all_told : (s last : State) (events : List (ℕ × Event)) (i : ℕ) → length events ≤ i → replayed_state s (drop i events) ≡ last → s ≡ last
all_told s last events i all progress = sym (ap (replayed_state s) (drop_all i events all)) ∙ progress
