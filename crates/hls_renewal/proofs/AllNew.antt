-- A log has an entry for each event that was new.
use Rattle.std.proofs.Common.{◌≡◌, ◌∙◌, ℕ, ◌+◌, List, [], ◌∷◌, length, ap, arith, length-append}
use Rattle.hls_core_laws.specs.declared.event.Event.{Event}
use Rattle.hls_core_laws.specs.State.{State}
use Rattle.hls_core_laws.specs.Outcome.{Outcome}
use Rattle.hls_core_laws.specs.Moves.{entry_of, state_with_entry}
use Rattle.hls_core_laws.specs.Runs.{state_by_outcome, next_state, replayed_state}
use Rattle.hls_renewal.specs.Renewals.{AreNew}

-- if each event is new in the state that it meets, the log grows by one entry for each event
pub new_entries : (s : State) (es : List (ℕ × Event)) → AreNew s es → length (replayed_state s es).log ≡ length s.log + length es
new_entries s [] new = omega arith
new_entries s (e ∷ es) new =
    let grown : length (next_state s e.0 e.1).log ≡ length s.log + 1 =
    ap (λ (o : Outcome). length (state_by_outcome o (state_with_entry s e.0 e.1) s).log) new.0 ∙ length-append s.log (entry_of e.0 e.1 ∷ []) in
    omega (arith, grown, new_entries (next_state s e.0 e.1) es new.1)
