-- Runs of events and requests: the last state, and the answer to each request.
use Rattle.std.specs.Prelude.{◌≡◌, ℕ, List, [], ◌∷◌, ◌++◌, length, take, slice_get, Some, Result}
use Rattle.hls_core_laws.specs.declared.event.Event.{Event}
use Rattle.hls_core_laws.specs.Config.{ConfigData}
use Rattle.hls_core_laws.specs.State.{State}
use Rattle.hls_core_laws.specs.Runs.{first_state, replayed_state, AreFitting}
use Rattle.hls_catchup.specs.declared.request.Request.{Request}
use Rattle.hls_catchup.specs.declared.fault.CatchFault.{CatchFault}
use Rattle.hls_catchup.specs.declared.standalone.Action.{Action}
use Rattle.hls_catchup.specs.declared.standalone.Action.TheVariants as action
use Rattle.hls_catchup.specs.Replies.{ReplyData, IsAnswered}

-- the events of a run, in order, each with the worker that submitted it
abbrev pub events_in : List Action → List (ℕ × Event)
events_in [] = []
events_in (action.Event by event ∷ rest) = (by, event) ∷ events_in rest
events_in (action.Ask request ∷ rest) = events_in rest

-- the requests of a run, in order
abbrev pub requests_in : List Action → List Request
requests_in [] = []
requests_in (action.Event by event ∷ rest) = requests_in rest
requests_in (action.Ask request ∷ rest) = request ∷ requests_in rest

-- the state before action k of a run
abbrev pub state_before : ConfigData → List Action → ℕ → State
state_before config actions k = replayed_state (first_state config) (events_in (take k actions))

-- one more answer is appended, which is the right one of the state to the request
pub record AppendsAnswer (s : State) (request : Request) (before after : List (Result ReplyData CatchFault)) : Type 0 where
  pub answer : Result ReplyData CatchFault
  pub appended : after ≡ before ++ answer ∷ []
  pub right : IsAnswered s request (Some answer)

-- the last state, and in order one answer for each request, from the state before it
pub record IsPlayed (config : ConfigData) (actions : List Action) (last : State) (answers : List (Result ReplyData CatchFault)) : Type 0 where
  pub state : last ≡ replayed_state (first_state config) (events_in actions)
  pub count : length answers ≡ length (requests_in actions)
  pub each : (k : ℕ) (request : Request) → slice_get actions k ≡ Some (action.Ask request) →
      IsAnswered (state_before config actions k) request (slice_get answers (length (requests_in (take k actions))))

-- the events of these actions fit in this order, and lead to the state
abbrev pub IsRunTo : ConfigData → List Action → State → Type 0
IsRunTo config actions state =
    AreFitting (first_state config) (events_in actions) × (state ≡ replayed_state (first_state config) (events_in actions))
