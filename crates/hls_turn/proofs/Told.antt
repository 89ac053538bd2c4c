-- From the steps of a call to its clause about the pass.
use Rattle.std.proofs.Common.{◌≡◌, ℕ, length, Option, Result, Ok, Err, [], ◌∷◌, ◌++◌, inl, inr, sym, refl, ap, ◌∙◌, subst}
use Rattle.hls_core_laws.specs.declared.event.Event.{Event}
use Rattle.hls_core_laws.specs.declared.refusal.Refusal.{Refusal}
use Rattle.hls_core_laws.specs.State.{State}
use Rattle.hls_core_laws.specs.IsState.{IsState}
use Rattle.hls_core_laws.specs.Outcome.{Outcome, New, Repeated, Refused}
use Rattle.hls_core_laws.specs.Moves.{Moves, IsFitting, IsFittingAsSeen, logged_event}
use Rattle.hls_core_laws.specs.Follows.{Follows}
use Rattle.hls_core_laws.specs.Workers.{events_by}
use Rattle.hls_core_laws.specs.Config.{ConfigData}
use Rattle.hls_core_laws.proofs.Callers.{state_of, continues_of, follows_itself, moves_follow, seen_suffices, workers_apart}
use Rattle.hls_turn.specs.declared.view.View.{View}
use Rattle.hls_core_laws.specs.declared.done.Done.{Done}
use Rattle.hls_core_laws.specs.declared.done.Done.TheVariants as done
use Rattle.hls_core.specs.StepResult.{Applies}
use Rattle.hls_turn.specs.Rule.{TakesState, FollowsSeen, after_put, MayPut}
use Rattle.hls_core_laws.specs.PassView.{IsSubmitResult, PassView, Submits}
use Rattle.hls_turn.specs.Passes.{PassData, IsPass, known_by, seen_by, renditions_seen}
use Rattle.hls_turn.specs.Calls.{HasLooked, LooksAt}

-- the taken state follows what the pass has seen
pub taken_follows : (v : View) (s : State) (w : View) → IsPass v → TakesState v s w → Follows (seen_by v) s
taken_follows v s w pass takes = subst (λ (seen : Option State). FollowsSeen seen s) pass.seen takes.follows

-- an event that fits what the pass saw fits the state that it meets
pub fits_met : (v : View) (s : State) (w : View) (event : Event) → IsPass v → TakesState v s w → IsFittingAsSeen (seen_by v) event → IsFitting s event
fits_met v s w event pass takes fits = seen_suffices (seen_by v) s event fits (taken_follows v s w pass takes)

-- a take, a move by an event and a put change what the pass knows as a submitted event does
pub submits : (v w u : View) (met after : State) (event : Event) (outcome : Outcome) (answer : Result Done Refusal) → IsPass v → TakesState v met w → Moves met v.number event outcome after → u ≡ after_put w after
    → IsSubmitResult event v.mine (events_by v.number after.log) after outcome answer → Submits (known_by v) event answer (known_by u)
submits v w u met after event outcome answer pass takes moves put answers =
    let is : known_by u ≡ record { number = v.number; seen = after; mine = events_by v.number after.log } = ap known_by (put ∙ ap (λ (y : View). after_put y after) takes.view_is) in
    subst (λ (k : PassView). Submits (known_by v) event answer k) (sym is) (record {
      number = refl;
      met = met;
      outcome = outcome;
      follows = taken_follows v met w pass takes;
      entries = takes.entries;
      moves = moves;
      answers = answers;
    })

-- a new event is appended to the pass's own
pub new_is_mine : (v w : View) (met after : State) (event : Event) → TakesState v met w → Moves met v.number event New after → events_by v.number after.log ≡ v.mine ++ logged_event event ∷ []
new_is_mine v w met after event takes moves = (workers_apart met after v.number v.number event moves).0 ∙ ap (λ l. l ++ logged_event event ∷ []) takes.entries

-- the pass that took the state may put it back
pub may_put_back : (v w : View) (met : State) → TakesState v met w → MayPut w met
may_put_back v w met takes = inr (met, ap (λ (y : View). y.holds) takes.view_is, inl refl)

-- the pass that took the state may put in the one after a new event
pub may_put_new : (v w : View) (met after : State) (event : Event) → TakesState v met w → IsState met → IsFitting met event → Moves met v.number event New after → MayPut w after
may_put_new v w met after event takes state fits moves =
    inr (met, ap (λ (y : View). y.holds) takes.view_is, inr (event, state, fits, subst (λ (n : ℕ). Moves met n event New after) (sym (ap (λ (y : View). y.number) takes.view_is)) moves))

-- a pass that isn't used counts as having looked
pub looked_self : (p : PassData) → HasLooked p p
looked_self p = record { turn = refl; looked = record { number = refl; follows = follows_itself p.known.seen; mine = refl } }

-- a pass that looks at a state has looked
pub looks_looked : (p q : PassData) → LooksAt p q → HasLooked p q
looks_looked p q looks = record { turn = looks.turn; looked = looks.looks.looked }

-- the taken state is a valid state
pub met_is_state : (v : View) (s : State) (w : View) → IsPass v → TakesState v s w → IsState s
met_is_state v s w pass takes = state_of (seen_by v) s (taken_follows v s w pass takes) pass.valid

-- a pass that puts in a valid state has seen it, and is as it must be between calls
pub put_is_pass : (w u : View) (after : State) → u ≡ after_put w after → IsState after → IsPass u
put_is_pass w u after put valid = subst (λ (y : View). IsPass y) (sym put) (record { seen = refl; holds = refl; mine = refl; valid = valid })

-- a pass that puts in a state that follows the taken one sees the same number of renditions as before
pub put_renditions : (v w u : View) (met after : State) → IsPass v → TakesState v met w → Follows met after → u ≡ after_put w after → renditions_seen u ≡ renditions_seen v
put_renditions v w u met after pass takes follows put =
    ap renditions_seen put ∙ ap (λ (c : ConfigData). length c.renditions) ((continues_of met after follows).config ∙ (continues_of (seen_by v) met (taken_follows v met w pass takes)).config)

-- a pass that puts in the state after a new event is as it must be between calls, and sees the same number of renditions
pub new_is_pass : (v w u : View) (met after : State) (event : Event) → IsPass v → TakesState v met w → IsFitting met event → Moves met v.number event New after → u ≡ after_put w after → IsPass u × (renditions_seen u ≡ renditions_seen v)
new_is_pass v w u met after event pass takes fits moves put =
    let moved = moves_follow met after v.number event New (met_is_state v met w pass takes) fits moves in
    (put_is_pass w u after put moved.0, put_renditions v w u met after pass takes moved.1 put)

-- a pass that puts back the state that it took is as it must be between calls, and sees the same number of renditions
pub back_is_pass : (v w u : View) (met : State) → IsPass v → TakesState v met w → u ≡ after_put w met → IsPass u × (renditions_seen u ≡ renditions_seen v)
back_is_pass v w u met pass takes put =
    (put_is_pass w u met put (met_is_state v met w pass takes), put_renditions v w u met met pass takes (follows_itself met) put)

-- the pass that took the state may put in what applying an event to it gives
pub applied_may_put : (v w : View) (met after : State) (event : Event) (answer : Result Done Refusal) → IsPass v → TakesState v met w → IsFitting met event → Applies met v.number event after answer → MayPut w after
applied_may_put v w met after event (Ok (done.New version)) pass takes fits applies = may_put_new v w met after event takes (met_is_state v met w pass takes) fits applies.0
applied_may_put v w met after event (Ok done.Repeat) pass takes fits applies = subst (MayPut w) (sym applies.1) (may_put_back v w met takes)
applied_may_put v w met after event (Err r) pass takes fits applies = subst (MayPut w) (sym applies.1) (may_put_back v w met takes)

-- after the result of an event is put back, the pass is as it must be between calls, and sees the same number of renditions
pub applied_is_pass : (v w u : View) (met after : State) (event : Event) (answer : Result Done Refusal) → IsPass v → TakesState v met w → IsFitting met event → Applies met v.number event after answer → u ≡ after_put w after
    → IsPass u × (renditions_seen u ≡ renditions_seen v)
applied_is_pass v w u met after event (Ok (done.New version)) pass takes fits applies put = new_is_pass v w u met after event pass takes fits applies.0 put
applied_is_pass v w u met after event (Ok done.Repeat) pass takes fits applies put = back_is_pass v w u met pass takes (put ∙ ap (after_put w) applies.1)
applied_is_pass v w u met after event (Err r) pass takes fits applies put = back_is_pass v w u met pass takes (put ∙ ap (after_put w) applies.1)

-- if the state is still the one that was taken, the pass's events are the same
kept_mine : (v w : View) (met after : State) → TakesState v met w → after ≡ met → events_by v.number after.log ≡ v.mine
kept_mine v w met after takes same = ap (λ (s : State). events_by v.number s.log) same ∙ takes.entries

-- after the result of an event is put back, what the pass knows has changed as a submitted event changes it
pub applied_submits : (v w u : View) (met after : State) (event : Event) (answer : Result Done Refusal) → IsPass v → TakesState v met w → Applies met v.number event after answer → u ≡ after_put w after
    → Submits (known_by v) event answer (known_by u)
applied_submits v w u met after event (Ok (done.New version)) pass takes applies put =
    submits v w u met after event New (Ok (done.New version)) pass takes applies.0 put
    (ap (λ (n : ℕ). Ok (done.New n)) applies.1, new_is_mine v w met after event takes applies.0)
applied_submits v w u met after event (Ok done.Repeat) pass takes applies put =
    submits v w u met after event Repeated (Ok done.Repeat) pass takes applies put (refl, kept_mine v w met after takes applies.1)
applied_submits v w u met after event (Err r) pass takes applies put =
    submits v w u met after event (Refused r) (Err r) pass takes applies put (refl, kept_mine v w met after takes applies.1)
