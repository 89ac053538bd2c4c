-- The events that are recalled from records.
use Rattle.std.specs.Prelude.{◌≡◌, ◌⊎◌, ℕ, ◌<◌, ◌≤◌, Option, Some, List, ◌∷◌, length, get_or}
use Rattle.hls_media_laws.specs.InitData.{InitData}
use Rattle.hls_media_laws.specs.IsInitOrUnit.{IsInit, IsUnit}
use Rattle.hls_media_laws.specs.declared.facts.Facts.{Facts}
use Rattle.hls_record.specs.RecordingData.{RecordingData, total_of}
use Rattle.hls_core_laws.specs.declared.event.Event.{Event}
use Rattle.hls_core_laws.specs.declared.event.Event.TheVariants.{Begin, Accept}
use Rattle.hls_core_laws.specs.Config.{ConfigData}
use Rattle.hls_core_laws.specs.State.{State}
use Rattle.hls_core_laws.specs.Runs.{first_state}
use Rattle.hls_core.specs.Bases.{config_after}
use Rattle.hls_journal_laws.specs.Floors.{highest_floor}
use Rattle.hls_journal.specs.declared.channel.ChannelHeader.{ChannelHeader}
use Rattle.hls_journal.specs.Channels.{channel_bytes}
use Rattle.hls_journal_laws.specs.declared.stored_media.StoredMedia.{StoredMedia}
use Rattle.hls_journal_laws.specs.Bodies.{unit_len_in, unit_checksum_in, IsAside}
use Rattle.hls_journal_laws.specs.Restored.{unit_checksum, IsStored, IsTrimmedUnit, Recalls, Restores}

-- the floor of a rendition in a list of floors, 0 after its end
abbrev pub floors_at : List ℕ → ℕ → ℕ
floors_at floors r = get_or floors r 0

-- the media of a rendition have the unit of a record at this offset
abbrev pub IsStoredIn : Option StoredMedia → ℕ → List ℕ → List ℕ → Type 0
IsStoredIn media at body bytes =
    (m : StoredMedia) × (media ≡ Some m) × IsStored m at (unit_len_in body) bytes × (unit_checksum_in body ≡ unit_checksum at bytes)

-- the bytes of a recording's next unit: those that replace it if its number is below the floor, else the stored ones
abbrev pub IsUnitOf : ℕ → Option StoredMedia → RecordingData → List ℕ → List ℕ → Type 0
IsUnitOf floor media rec body bytes =
    ((length rec.facts < floor) × IsTrimmedUnit body bytes) ⊎ ((floor ≤ length rec.facts) × IsStoredIn media (total_of rec) body bytes)

-- the event is the begin of a rendition with these bytes
abbrev pub BeginsWith : ℕ → List ℕ → Event → Type 0
BeginsWith r bytes event = (init : InitData) × IsInit bytes init × (event ≡ Begin r init bytes)

-- the event is the next unit of a recording
abbrev pub AcceptsNext : ℕ → Option StoredMedia → RecordingData → ℕ → List ℕ → Event → Type 0
AcceptsNext floor media rec r body event =
    (f : Facts) × (bytes : List ℕ) × IsUnitOf floor media rec body bytes × IsUnit rec.init bytes f × (event ≡ Accept r f bytes) × (16 ≤ length body)

-- one record leads from a state to the next
abbrev pub RestoresOne : (ℕ → ℕ) → List StoredMedia → State → List ℕ → State → Type 0
RestoresOne floors media s body next = (IsAside body × (next ≡ s)) ⊎ Recalls floors media s body next

-- the records of a channel with this configuration, whatever its base, lead to a state
pub record RestoresChannel (config : ConfigData) (media : List StoredMedia) (bodies : List (List ℕ)) (s : State) : Type 0 where
  pub header : ChannelHeader
  pub records : List (List ℕ)
  pub is : bodies ≡ channel_bytes config header ∷ records
  pub restores : Restores (highest_floor records) media (first_state (config_after config header.base)) records s
