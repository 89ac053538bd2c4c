-- What an actor knows of a channel, and how that changes with each act: an event or a look, and what others did meanwhile.
use Rattle.std.specs.Prelude.{◌≡◌, ℕ, Result, Ok, Err, List, [], ◌∷◌, ◌++◌, length}
use Rattle.hls_core_laws.specs.declared.done.Done.{Done}
use Rattle.hls_core_laws.specs.declared.done.Done.TheVariants as done
use Rattle.hls_core_laws.specs.declared.event.Event.{Event}
use Rattle.hls_core_laws.specs.declared.event.LoggedEvent.{LoggedEvent}
use Rattle.hls_core_laws.specs.declared.refusal.Refusal.{Refusal}
use Rattle.hls_core_laws.specs.State.{State}
use Rattle.hls_core_laws.specs.Outcome.{Outcome, New, Repeated, Refused}
use Rattle.hls_core_laws.specs.Moves.{Moves, logged_event}
use Rattle.hls_core_laws.specs.Follows.{Follows}
use Rattle.hls_core_laws.specs.Workers.{events_by}

-- an actor's number, the state that it saw last, and the events that it submitted
pub record PassView : Type 0 where
  pub number : ℕ
  pub seen : State
  pub mine : List LoggedEvent

-- the actor may have seen a later state, and its own events are unchanged
pub record MaySeeLater (old new : PassView) : Type 0 where
  pub number : new.number ≡ old.number
  pub follows : Follows old.seen new.seen
  pub mine : new.mine ≡ old.mine

-- the actor sees the state s, which follows the one that it saw before and has exactly the events that it submitted
pub record Looks (old : PassView) (s : State) (new : PassView) : Type 0 where
  pub looked : MaySeeLater old new
  pub seen : new.seen ≡ s
  pub entries : events_by old.number s.log ≡ old.mine

-- the answer to an event with this outcome that led to the state b; only a New event is added to its own events
abbrev pub IsSubmitResult : Event → List LoggedEvent → List LoggedEvent → State → Outcome → Result Done Refusal → Type 0
IsSubmitResult event old new b New answer = (answer ≡ Ok (done.New (length b.log))) × (new ≡ old ++ logged_event event ∷ [])
IsSubmitResult event old new b Repeated answer = (answer ≡ Ok done.Repeat) × (new ≡ old)
IsSubmitResult event old new b (Refused r) answer = (answer ≡ Err r) × (new ≡ old)

-- the event met a state that follows the one seen before, and moved it by the relation of moves to the one that is seen now
pub record Submits (old : PassView) (event : Event) (answer : Result Done Refusal) (new : PassView) : Type 0 where
  pub number : new.number ≡ old.number
  pub met : State
  pub outcome : Outcome
  pub follows : Follows old.seen met
  pub entries : events_by old.number met.log ≡ old.mine
  pub moves : Moves met old.number event outcome new.seen
  pub answers : IsSubmitResult event old.mine new.mine new.seen outcome answer
