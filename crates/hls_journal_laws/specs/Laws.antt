-- The laws, each as one statement.
use Rattle.std.specs.Prelude.{◌≡◌, ℕ, ◌≤◌, List}
use Rattle.hls_core_laws.specs.declared.event.Event.{Event}
use Rattle.hls_core_laws.specs.Config.{ConfigData, IsConfig}
use Rattle.hls_core_laws.specs.Channel.{lane}
use Rattle.hls_core_laws.specs.State.{State, channel}
use Rattle.hls_core_laws.specs.IsState.{IsState}
use Rattle.hls_core_laws.specs.Runs.{first_state, replayed_state, AreFitting}
use Rattle.hls_core_laws.specs.Follows.{Follows}
use Rattle.hls_journal_laws.specs.Replays.{AreNew}
use Rattle.hls_journal_laws.specs.declared.stored_media.StoredMedia.{StoredMedia}
use Rattle.hls_journal_laws.specs.Floors.{highest_floor}
use Rattle.hls_journal_laws.specs.Restored.{Restores}
use Rattle.hls_journal_laws.specs.Written.{AreWritten}

-- whatever the records and the media are, what they restore is a state of the configuration, and follows the opening state
abbrev pub RestoredStatesAreStates : Type 0
RestoredStatesAreStates =
    (config : ConfigData) (floors : ℕ → ℕ) (media : List StoredMedia) (bodies : List (List ℕ)) (s : State) → IsConfig config
    → Restores floors media (first_state config) bodies s → IsState s × Follows (first_state config) s × (s.config ≡ config)

-- the records of the events that came restore the state that the events lead to, if no floor is above the one in that state
abbrev pub RestoredIsReplayed : Type 0
RestoredIsReplayed =
    (config : ConfigData) (floors : ℕ → ℕ) (media : List StoredMedia) (bodies : List (List ℕ)) (past : List (ℕ × Event)) (s : State) → IsConfig config
    → AreFitting (first_state config) past → AreNew (first_state config) past
    → AreWritten floors media (first_state config) bodies past → Restores floors media (first_state config) bodies s
    → ((r : ℕ) → floors r ≤ (lane (channel (replayed_state (first_state config) past)) r).floor)
    → s ≡ replayed_state (first_state config) past

-- no record of what came trims a rendition above its floor in the end
abbrev pub TrimmedFloorsAreReached : Type 0
TrimmedFloorsAreReached =
    (config : ConfigData) (floors : ℕ → ℕ) (media : List StoredMedia) (bodies : List (List ℕ)) (past : List (ℕ × Event)) → IsConfig config
    → AreFitting (first_state config) past → AreNew (first_state config) past → AreWritten floors media (first_state config) bodies past
    → (r : ℕ) → highest_floor bodies r ≤ (lane (channel (replayed_state (first_state config) past)) r).floor
