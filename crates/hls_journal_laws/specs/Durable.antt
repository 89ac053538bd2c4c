-- What a crash leaves of a journal, and what that restores.
use Rattle.std.specs.Prelude.{◌≡◌, ◌⊎◌, ℕ, suc, ◌≤◌, nat_le, Bool, true, false, ◌&&◌, List, [], ◌∷◌, length, take, drop}
use Rattle.hls_journal_log.specs.declared.ending.Ending.{Ending}
use Rattle.hls_journal_log.specs.Records.{AreWithinLimit}
use Rattle.hls_journal_log.specs.Reading.{Reads}
use Rattle.hls_journal_log.specs.Crashes.{Survive}
use Rattle.hls_core_laws.specs.declared.event.Event.{Event}
use Rattle.hls_core_laws.specs.Config.{ConfigData, IsConfig}
use Rattle.hls_core_laws.specs.State.{State}
use Rattle.hls_core_laws.specs.Runs.{first_state, next_state, replayed_state, AreFitting}
use Rattle.hls_journal_laws.specs.Replays.{AreNew}
use Rattle.hls_journal_laws.specs.declared.stored_media.StoredMedia.{StoredMedia}
use Rattle.hls_journal_laws.specs.Bodies.{kind_in, worker_in, IsAside}
use Rattle.hls_journal_laws.specs.Floors.{highest_floor}
use Rattle.hls_journal_laws.specs.Restored.{Restores}
use Rattle.hls_journal_laws.specs.Written.{IsWritten, KeepsUnit}

-- these records are of these events, one by one, but for records aside
abbrev pub AreRecords : State → List (List ℕ) → List (ℕ × Event) → Type 0
AreRecords s [] [] = Unit {0}
AreRecords s [] (e ∷ es) = ⊥
AreRecords s (body ∷ bodies) [] = IsAside body × AreRecords s bodies []
AreRecords s (body ∷ bodies) (e ∷ es) =
    (IsAside body × AreRecords s bodies (e ∷ es))
    ⊎ ((worker_in body ≡ e.0) × IsWritten s body e.1 × AreRecords (next_state s e.0 e.1) bodies es)

-- what the media have of these events' units is the units' bytes, but for those below the floors
abbrev pub KeepUnits : (ℕ → ℕ) → List StoredMedia → State → List (ℕ × Event) → Type 0
KeepUnits floors media s [] = Unit {0}
KeepUnits floors media s (e ∷ es) = KeepsUnit floors media s e.1 × KeepUnits floors media (next_state s e.0 e.1) es

-- whether a record is of no event
abbrev pub is_aside : List ℕ → Bool
is_aside body = nat_le 6 (kind_in body) && nat_le (kind_in body) 8

-- a count of records that one of an event raises by 1, and one of no event leaves
abbrev pub counted : Bool → ℕ → ℕ
counted true n = n
counted false n = suc n

-- how many of the records are of an event
abbrev pub count_events : List (List ℕ) → ℕ
count_events [] = 0
count_events (body ∷ bodies) = counted (is_aside body) (count_events bodies)

-- a journal's records are that of a channel, and those of the events that came, all of them new
pub record IsJournal (config : ConfigData) (channel : List ℕ) (records : List (List ℕ)) (past : List (ℕ × Event)) : Type 0 where
  pub configured : IsConfig config
  pub fits : AreFitting (first_state config) past
  pub new : AreNew (first_state config) past
  pub small : AreWithinLimit (channel ∷ records)
  pub written : AreRecords (first_state config) records past

-- the records that are read after a crash are the first of those that were written; what the media have of
-- their units is the units' bytes, but for trimmed ones
pub record AreFound (config : ConfigData) (media : List StoredMedia) (channel : List ℕ) (records : List (List ℕ)) (past : List (ℕ × Event)) (found : List (List ℕ)) : Type 0 where
  pub prefix : found ≡ take (length found) (channel ∷ records)
  pub stored : KeepUnits (highest_floor (drop 1 found)) media (first_state config) (take (count_events (drop 1 found)) past)

-- of a journal whose first records survive a crash, what is read after it restores the state that the events of a prefix of the records
-- lead to: at least those of the records that survive
abbrev pub DurableEventsAreRestored : (List ℕ → Type 0) → Type 0
DurableEventsAreRestored outcomes =
    (config : ConfigData) (media : List StoredMedia) (channel : List ℕ) (records found : List (List ℕ)) (past : List (ℕ × Event)) (durable : ℕ)
    (c : List ℕ) (ending : Ending) (s : State) → IsJournal config channel records past
    → Survive (channel ∷ take durable records) outcomes → outcomes c → Reads 0 c found ending → AreFound config media channel records past found
    → Restores (highest_floor (drop 1 found)) media (first_state config) (drop 1 found) s
    → (count_events (take durable records) ≤ count_events (drop 1 found))
    × (s ≡ replayed_state (first_state config) (take (count_events (drop 1 found)) past))
