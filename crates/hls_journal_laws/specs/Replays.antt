-- Replays of the events that came.
use Rattle.std.specs.Prelude.{◌≡◌, ℕ, ◌≤◌, List, [], ◌∷◌, take}
use Rattle.hls_core_laws.specs.declared.event.Event.{Event}
use Rattle.hls_core_laws.specs.Config.{ConfigData, IsConfig}
use Rattle.hls_core_laws.specs.State.{State}
use Rattle.hls_core_laws.specs.Outcome.{New, outcome_of}
use Rattle.hls_core_laws.specs.Runs.{first_state, next_state, replayed_state, AreFitting}
use Rattle.hls_core_laws.specs.Follows.{Follows}

-- the replay of a prefix is followed by that of a longer one
abbrev pub PrefixesFollow : Type 0
PrefixesFollow =
    (config : ConfigData) (past : List (ℕ × Event)) (j k : ℕ) → IsConfig config → AreFitting (first_state config) past → j ≤ k
    → Follows (replayed_state (first_state config) (take j past)) (replayed_state (first_state config) (take k past))

-- each event is new in the state that it meets
abbrev pub AreNew : State → List (ℕ × Event) → Type 0
AreNew s [] = Unit {0}
AreNew s (e ∷ es) = (outcome_of s e.1 ≡ New) × AreNew (next_state s e.0 e.1) es
