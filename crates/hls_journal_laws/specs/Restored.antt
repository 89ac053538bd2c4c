-- The state that records and stored media restore.
use Rattle.std.specs.Prelude.{◌≡◌, ◌⊎◌, ℕ, ◌+◌, ◌-◌, ◌<◌, ◌≤◌, Some, List, [], ◌∷◌, ◌++◌, length, replicate, slice_get, slice_range, Contains}
use Rattle.byteorder.specs.Endian.{little_bytes}
use Rattle.hls_journal_log.specs.Checksum.{checksum_of}
use Rattle.hls_media_laws.specs.InitData.{InitData}
use Rattle.hls_media_laws.specs.declared.facts.Facts.{Facts}
use Rattle.hls_core_laws.specs.declared.event.Event.{Event}
use Rattle.hls_core_laws.specs.declared.event.Event.TheVariants.{Begin, Accept, Finish, Slide, Trim}
use Rattle.hls_core_laws.specs.Channel.{Lane, lane, lane_len}
use Rattle.hls_core_laws.specs.State.{State, channel}
use Rattle.hls_core_laws.specs.Outcome.{New, outcome_of}
use Rattle.hls_core_laws.specs.Moves.{state_with_entry, IsFitting}
use Rattle.hls_journal_laws.specs.declared.stored_media.MediaPiece.{MediaPiece}
use Rattle.hls_journal_laws.specs.declared.stored_media.StoredMedia.{StoredMedia}
use Rattle.hls_journal_laws.specs.Bodies.{kind_in, worker_in, rendition_in, init_section_in, number_in, unit_len_in, unit_checksum_in, unit_head_in, IsAside}

-- a piece has these bytes at this offset
abbrev pub IsInPiece : MediaPiece → ℕ → ℕ → List ℕ → Type 0
IsInPiece p at len bytes =
    (p.start ≤ at) × (at + len ≤ p.start + length p.bytes) × (bytes ≡ slice_range p.bytes (at - p.start) (at - p.start + len))

-- the media have these bytes at this offset, in one piece
abbrev pub IsStored : StoredMedia → ℕ → ℕ → List ℕ → Type 0
IsStored m at len bytes = (p : MediaPiece) × Contains m.pieces.items p × IsInPiece p at len bytes

-- the checksum of a unit, which covers its offset
abbrev pub unit_checksum : ℕ → List ℕ → List ℕ
unit_checksum at bytes = little_bytes 8 (checksum_of at bytes)

-- the bytes that replace a unit that is trimmed in the end: its head, and zeros up to its length
pub record IsTrimmedUnit (body bytes : List ℕ) : Type 0 where
  pub fits : length (unit_head_in body) ≤ unit_len_in body
  pub is : bytes ≡ unit_head_in body ++ replicate (unit_len_in body - length (unit_head_in body)) 0

-- the stored bytes of a unit at this offset, which have the record's checksum
abbrev pub IsStoredUnit : List StoredMedia → ℕ → ℕ → List ℕ → List ℕ → Type 0
IsStoredUnit media r at body bytes =
    (m : StoredMedia) × (slice_get media r ≡ Some m) × IsStored m at (unit_len_in body) bytes × (unit_checksum_in body ≡ unit_checksum at bytes)

-- the bytes of the next unit of a rendition: those that replace it if its number is below the floor, else the stored ones
abbrev pub IsNextUnit : (ℕ → ℕ) → List StoredMedia → State → ℕ → List ℕ → List ℕ → Type 0
IsNextUnit floors media s r body bytes =
    ((length (lane (channel s) r).facts < floors r) × IsTrimmedUnit body bytes)
    ⊎ ((floors r ≤ length (lane (channel s) r).facts) × IsStoredUnit media r (lane_len (lane (channel s) r)) body bytes)

-- a record, which has the length of its kind, is of this event in a state
abbrev pub IsRecordOf : (ℕ → ℕ) → List StoredMedia → State → List ℕ → Event → Type 0
IsRecordOf floors media s body (Begin r init bytes) = (kind_in body ≡ 1) × (r ≡ rendition_in body) × (bytes ≡ init_section_in body) × (4 ≤ length body)
IsRecordOf floors media s body (Accept r f bytes) = (kind_in body ≡ 2) × (r ≡ rendition_in body) × IsNextUnit floors media s r body bytes × (16 ≤ length body)
IsRecordOf floors media s body (Finish r) = (kind_in body ≡ 3) × (r ≡ rendition_in body) × (4 ≤ length body)
IsRecordOf floors media s body (Slide count) = (kind_in body ≡ 4) × (count ≡ number_in body) × (length body ≡ 12)
IsRecordOf floors media s body (Trim r floor) = (kind_in body ≡ 5) × (r ≡ rendition_in body) × (floor ≡ number_in body) × (length body ≡ 12)

-- a record leads from a state to the next: its event fits and is new
pub record Recalls (floors : ℕ → ℕ) (media : List StoredMedia) (s : State) (body : List ℕ) (next : State) : Type 0 where
  pub event : Event
  pub of : IsRecordOf floors media s body event
  pub fits : IsFitting s event
  pub new : outcome_of s event ≡ New
  pub is : next ≡ state_with_entry s (worker_in body) event

-- records lead from a state to another, one by one
abbrev pub Restores : (ℕ → ℕ) → List StoredMedia → State → List (List ℕ) → State → Type 0
Restores floors media a [] b = b ≡ a
Restores floors media a (body ∷ bodies) b =
    (IsAside body × Restores floors media a bodies b)
    ⊎ ((next : State) × Recalls floors media a body next × Restores floors media next bodies b)
