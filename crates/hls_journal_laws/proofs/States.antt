-- Restored states are states.
use Rattle.std.proofs.Common.{◌≡◌, ◌∙◌, ℕ, List, [], ◌∷◌, refl, sym, ap, subst, inl, inr}
use Rattle.hls_core_laws.specs.declared.event.Event.{Event}
use Rattle.hls_core_laws.specs.Config.{ConfigData, IsConfig}
use Rattle.hls_core_laws.specs.State.{State}
use Rattle.hls_core_laws.specs.IsState.{IsState}
use Rattle.hls_core_laws.specs.Moves.{state_with_entry}
use Rattle.hls_core_laws.specs.Runs.{first_state}
use Rattle.hls_core_laws.specs.Follows.{Follows}
use Rattle.hls_core_laws.proofs.Callers.{advanced_state, advanced_follows, follows_itself, follows_through, first_is_state}
use Rattle.hls_journal_laws.specs.declared.stored_media.StoredMedia.{StoredMedia}
use Rattle.hls_journal_laws.specs.Bodies.{worker_in}
use Rattle.hls_journal_laws.specs.Restored.{Recalls, Restores}
use Rattle.hls_journal_laws.specs.Laws.{RestoredStatesAreStates}

-- a record leads from a state to a state
recalled_state : (floors : ℕ → ℕ) (media : List StoredMedia) (s : State) (body : List ℕ) (next : State) → IsState s → Recalls floors media s body next → IsState next
recalled_state floors media s body next state r = subst IsState (sym r.is) (advanced_state s (worker_in body) r.event state r.fits r.new)

-- the state to which a record leads follows the one before
recalled_follows : (floors : ℕ → ℕ) (media : List StoredMedia) (s : State) (body : List ℕ) (next : State) → IsState s → Recalls floors media s body next → Follows s next
recalled_follows floors media s body next state r = subst (λ (z : State). Follows s z) (sym r.is) (advanced_follows s (worker_in body) r.event state r.fits r.new)

-- records lead from a state to a state that follows it, with the same configuration
pub restored_state : (floors : ℕ → ℕ) (media : List StoredMedia) (a : State) (bodies : List (List ℕ)) (b : State) → IsState a → Restores floors media a bodies b
    → IsState b × Follows a b × (b.config ≡ a.config)
restored_state floors media a [] b state restores =
    (subst IsState (sym restores) state, subst (λ (z : State). Follows a z) (sym restores) (follows_itself a), ap (λ (z : State). z.config) restores)
restored_state floors media a (body ∷ bodies) b state (inl aside) = restored_state floors media a bodies b state aside.1
restored_state floors media a (body ∷ bodies) b state (inr restores) =
    let next = restores.0 in
    let next_state : IsState restores.0 = recalled_state floors media a body restores.0 state restores.1 in
    let rest = restored_state floors media restores.0 bodies b next_state restores.2 in
    let config : (restores.0).config ≡ a.config = ap (λ (z : State). z.config) restores.1.is in
    (rest.0, follows_through a restores.0 b (recalled_follows floors media a body restores.0 state restores.1) rest.1, rest.2 ∙ config)

-- whatever the records and the media are, what they restore is a state of the configuration
pub restored-states-are-states : RestoredStatesAreStates
restored-states-are-states config floors media bodies s configured restores =
    restored_state floors media (first_state config) bodies s (first_is_state config configured) restores
