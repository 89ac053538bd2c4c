-- Why records restore no channel.
use Rattle.std.specs.Prelude.{◌≡◌, ◌⊎◌, ℕ, ◌+◌, ◌-◌, ◌<◌, ◌≤◌, ⊤, Option, Some, List, [], ◌∷◌, length, take, slice_get}
use Rattle.hls_media_laws.specs.InitData.{InitData}
use Rattle.hls_media_laws.specs.IsInitOrUnit.{IsInit, IsUnit}
use Rattle.hls_media_laws.specs.declared.facts.Facts.{Facts}
use Rattle.hls_record.specs.RecordingData.{RecordingData, total_of}
use Rattle.hls_core_laws.specs.declared.event.Event.{Event}
use Rattle.hls_core_laws.specs.declared.refusal.Refusal.{Refusal}
use Rattle.hls_core_laws.specs.declared.refusal.Refusal.TheVariants as refusals
use Rattle.hls_core_laws.specs.Config.{ConfigData}
use Rattle.hls_core_laws.specs.Channel.{lane, lane_len}
use Rattle.hls_core_laws.specs.State.{State, channel}
use Rattle.hls_core_laws.specs.Outcome.{New, outcome_of}
use Rattle.hls_core_laws.specs.Moves.{IsFitting}
use Rattle.hls_core_laws.specs.Runs.{first_state}
use Rattle.hls_core.specs.Bases.{config_after}
use Rattle.hls_journal_laws.specs.declared.stored_media.MediaPiece.{MediaPiece}
use Rattle.hls_journal_laws.specs.declared.stored_media.StoredMedia.{StoredMedia}
use Rattle.hls_journal_laws.specs.Bodies.{kind_in, rendition_in, unit_len_in, IsAside}
use Rattle.hls_journal_laws.specs.Floors.{highest_floor}
use Rattle.hls_journal_laws.specs.Restored.{IsTrimmedUnit, IsStoredUnit, IsRecordOf, Restores}
use Rattle.hls_journal.specs.declared.channel.ChannelHeader.{ChannelHeader}
use Rattle.hls_journal.specs.declared.fault.JournalFault.{JournalFault}
use Rattle.hls_journal.specs.declared.fault.JournalFault.TheVariants as journal
use Rattle.hls_journal.specs.declared.fault.RecallFault.{RecallFault}
use Rattle.hls_journal.specs.declared.fault.RecallFault.TheVariants.{Memory, Wrong, Missing}
use Rattle.hls_journal.specs.Channels.{channel_bytes, IsChannelFault}
use Rattle.hls_journal.specs.Recalling.{IsStoredIn, IsUnitOf}

-- pieces are in the order of their offsets, and none overlap
abbrev pub AreInOrder : List MediaPiece → Type 0
AreInOrder pieces =
    (i j : ℕ) (p q : MediaPiece) → i < j → slice_get pieces i ≡ Some p → slice_get pieces j ≡ Some q → p.start + length p.bytes ≤ q.start

-- if a rendition's media are there, their pieces are in the order of their offsets, and none overlap
abbrev pub IsInOrder : Option StoredMedia → Type 0
IsInOrder media = (m : StoredMedia) → media ≡ Some m → AreInOrder m.pieces.items

-- the pieces of each rendition's media are in the order of their offsets, and none overlap
abbrev pub AreMediaInOrder : List StoredMedia → Type 0
AreMediaInOrder media = (r : ℕ) → IsInOrder (slice_get media r)

-- a record of a unit that must be stored, and isn't
pub record MissesUnit (floors : ℕ → ℕ) (media : List StoredMedia) (s : State) (body : List ℕ) : Type 0 where
  pub kind : kind_in body ≡ 2
  pub complete : 16 ≤ length body
  pub some : 0 < unit_len_in body
  pub init : InitData
  pub begun : (lane (channel s) (rendition_in body)).init ≡ Some init
  pub kept : floors (rendition_in body) ≤ length (lane (channel s) (rendition_in body)).facts
  pub missing : AreMediaInOrder media
      → (bytes : List ℕ) → IsStoredUnit media (rendition_in body) (lane_len (lane (channel s) (rendition_in body))) body bytes → ⊥

-- a record that is of no new event, though no unit is missing
pub record IsNotNew (floors : ℕ → ℕ) (media : List StoredMedia) (s : State) (body : List ℕ) : Type 0 where
  pub none : AreMediaInOrder media → (event : Event) → IsRecordOf floors media s body event → IsFitting s event → outcome_of s event ≡ New → ⊥
  pub own : AreMediaInOrder media → MissesUnit floors media s body → ⊥

-- why a record leads to no next state
abbrev pub IsRecallFault : (ℕ → ℕ) → List StoredMedia → State → List ℕ → RecallFault → Type 0
IsRecallFault floors media s body Memory = ⊤
IsRecallFault floors media s body Wrong = IsNotNew floors media s body
IsRecallFault floors media s body Missing = MissesUnit floors media s body

-- why an event leads to no next state
abbrev pub IsOldFault : State → Event → RecallFault → Type 0
IsOldFault s event Memory = ⊤
IsOldFault s event Wrong = outcome_of s event ≡ New → ⊥
IsOldFault s event Missing = ⊥

-- the fault of recalling an event that is refused: an allocation failure, or else a wrong record
abbrev pub fault_of : Refusal → RecallFault
fault_of refusals.Memory = Memory
fault_of refusal = Wrong

-- why bytes lead to no begin of a rendition: they are no init section, or an allocation failed
abbrev pub IsBeginFault : List ℕ → RecallFault → Type 0
IsBeginFault bytes Memory = ⊤
IsBeginFault bytes Wrong = (init : InitData) → IsInit bytes init → ⊥
IsBeginFault bytes Missing = ⊥

-- why nothing replaces the trimmed unit of a record: its head with zeros up to its length is no unit, or an allocation failed
abbrev pub IsTrimmedFault : List ℕ → RecallFault → Type 0
IsTrimmedFault body Memory = ⊤
IsTrimmedFault body Wrong = (init : InitData) (bytes : List ℕ) (f : Facts) → IsTrimmedUnit body bytes → IsUnit init bytes f → ⊥
IsTrimmedFault body Missing = ⊥

-- why the unit of a record isn't found: the media don't have it, or an allocation failed
abbrev pub IsStoredFault : Option StoredMedia → ℕ → List ℕ → RecallFault → Type 0
IsStoredFault media at body Memory = ⊤
IsStoredFault media at body Wrong = ⊥
IsStoredFault media at body Missing = IsInOrder media → (bytes : List ℕ) → IsStoredIn media at body bytes → ⊥

-- a record isn't of the next unit of a recording, though none is missing
pub record IsNoUnit (floor : ℕ) (media : Option StoredMedia) (rec : RecordingData) (body : List ℕ) : Type 0 where
  pub none : IsInOrder media → 16 ≤ length body → (bytes : List ℕ) (f : Facts) → IsUnitOf floor media rec body bytes → IsUnit rec.init bytes f → ⊥
  pub own : IsInOrder media → 16 ≤ length body → 0 < unit_len_in body → floor ≤ length rec.facts
      → ((bytes : List ℕ) → IsStoredIn media (total_of rec) body bytes → ⊥) → ⊥

-- the next unit of a recording must be stored, and isn't
pub record IsUnitMissing (floor : ℕ) (media : Option StoredMedia) (rec : RecordingData) (body : List ℕ) : Type 0 where
  pub complete : 16 ≤ length body
  pub some : 0 < unit_len_in body
  pub kept : floor ≤ length rec.facts
  pub missing : IsInOrder media → (bytes : List ℕ) → IsStoredIn media (total_of rec) body bytes → ⊥

-- why a record leads to no next unit of a recording
abbrev pub IsUnitFault : ℕ → Option StoredMedia → RecordingData → List ℕ → RecallFault → Type 0
IsUnitFault floor media rec body Memory = ⊤
IsUnitFault floor media rec body Wrong = IsNoUnit floor media rec body
IsUnitFault floor media rec body Missing = IsUnitMissing floor media rec body

-- the journal's fault for the fault of the record with this number
abbrev pub fault_at : RecallFault → ℕ → JournalFault
fault_at Memory number = journal.Memory
fault_at Wrong number = journal.WrongRecord number
fault_at Missing number = journal.MissingUnit number

-- the records before this one, counted from 1, lead to a state, and this one leads to no next state
pub record FailsAt (floors : ℕ → ℕ) (media : List StoredMedia) (a : State) (bodies : List (List ℕ)) (number : ℕ) (fault : RecallFault) : Type 0 where
  pub before : State
  pub body : List ℕ
  pub at : slice_get bodies (number - 1) ≡ Some body
  pub some : 1 ≤ number
  pub restores : Restores floors media a (take (number - 1) bodies) before
  pub event : IsAside body → ⊥
  pub why : IsRecallFault floors media before body fault

-- why records lead from a state to no other
abbrev pub IsRestoreFault : (ℕ → ℕ) → List StoredMedia → State → List (List ℕ) → JournalFault → Type 0
IsRestoreFault floors media a bodies journal.Memory = ⊤
IsRestoreFault floors media a bodies journal.NoChannel = ⊥
IsRestoreFault floors media a bodies (journal.UnknownVersion version) = ⊥
IsRestoreFault floors media a bodies (journal.JournalOther field found given) = ⊥
IsRestoreFault floors media a bodies (journal.WrongRecord number) = FailsAt floors media a bodies number Wrong
IsRestoreFault floors media a bodies (journal.MissingUnit number) = FailsAt floors media a bodies number Missing

-- the first record isn't of a channel with this configuration
pub record ChannelFails (config : ConfigData) (bodies : List (List ℕ)) (fault : JournalFault) : Type 0 where
  pub channel : List ℕ
  pub records : List (List ℕ)
  pub is : bodies ≡ channel ∷ records
  pub why : IsChannelFault config channel fault

-- the first record is of a channel with this configuration, and those after it restore no state
pub record RecordsFail (config : ConfigData) (media : List StoredMedia) (bodies : List (List ℕ)) (fault : JournalFault) : Type 0 where
  pub header : ChannelHeader
  pub records : List (List ℕ)
  pub is : bodies ≡ channel_bytes config header ∷ records
  pub why : IsRestoreFault (highest_floor records) media (first_state (config_after config header.base)) records fault

-- why a journal restores no channel with this configuration
abbrev pub IsJournalFault : ConfigData → List StoredMedia → List (List ℕ) → JournalFault → Type 0
IsJournalFault config media bodies fault =
    ((bodies ≡ []) × (fault ≡ journal.NoChannel)) ⊎ (ChannelFails config bodies fault ⊎ RecordsFail config media bodies fault)
