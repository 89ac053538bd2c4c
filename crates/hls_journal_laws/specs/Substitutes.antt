-- Events in which other bytes replace those of units that are trimmed in the end.
use Rattle.std.specs.Prelude.{◌≡◌, ◌⊎◌, ℕ, ◌<◌, ◌≤◌, List, [], ◌∷◌, length}
use Rattle.hls_core_laws.specs.declared.event.Event.{Event}
use Rattle.hls_core_laws.specs.declared.event.Event.TheVariants.{Begin, Accept, Finish, Slide, Trim}
use Rattle.hls_core_laws.specs.Config.{ConfigData, IsConfig}
use Rattle.hls_core_laws.specs.Channel.{Lane, lane}
use Rattle.hls_core_laws.specs.State.{State, channel}
use Rattle.hls_core_laws.specs.Moves.{logged_event}
use Rattle.hls_core_laws.specs.Runs.{first_state, next_state, replayed_state, AreFitting}
use Rattle.hls_journal_laws.specs.Replays.{AreNew}

-- the event is of a unit whose number is below this floor of its rendition
abbrev pub IsBelow : (ℕ → ℕ) → State → Event → Type 0
IsBelow floors s (Begin r init bytes) = ⊥
IsBelow floors s (Accept r f bytes) = length (lane (channel s) r).facts < floors r
IsBelow floors s (Finish r) = ⊥
IsBelow floors s (Slide count) = ⊥
IsBelow floors s (Trim r floor) = ⊥

-- the second event replaces the first: it is the same, or another unit below the floor that is logged as the same event
abbrev pub Replaces : (ℕ → ℕ) → State → Event → Event → Type 0
Replaces floors s x y = (y ≡ x) ⊎ ((logged_event y ≡ logged_event x) × IsBelow floors s x)

-- one by one the events replace those that came, by the same workers
abbrev pub AreSubstitutes : (ℕ → ℕ) → State → List (ℕ × Event) → List (ℕ × Event) → Type 0
AreSubstitutes floors s [] [] = Unit {0}
AreSubstitutes floors s [] (y ∷ ys) = ⊥
AreSubstitutes floors s (x ∷ xs) [] = ⊥
AreSubstitutes floors s (x ∷ xs) (y ∷ ys) = (y.0 ≡ x.0) × Replaces floors s x.1 y.1 × AreSubstitutes floors (next_state s x.0 x.1) xs ys

-- events that replace new ones are new, and lead to the same state, if the floors are reached in the end
abbrev pub SubstitutesReplayAlike : Type 0
SubstitutesReplayAlike =
    (config : ConfigData) (floors : ℕ → ℕ) (past others : List (ℕ × Event)) → IsConfig config
    → AreFitting (first_state config) past → AreNew (first_state config) past
    → AreSubstitutes floors (first_state config) past others
    → ((r : ℕ) → floors r ≤ (lane (channel (replayed_state (first_state config) past)) r).floor)
    → AreNew (first_state config) others × (replayed_state (first_state config) others ≡ replayed_state (first_state config) past)
