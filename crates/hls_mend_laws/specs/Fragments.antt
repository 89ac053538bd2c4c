-- A unit of one track fragment, as mending writes it (ISO/IEC 14496-12 8.8.4 to 8.8.8, 8.8.12): a `moof` with one `traf`, whose one `trun`
-- has every field of every sample, and an `mdat` with the samples' bytes.
use Rattle.std.specs.Prelude.{◌≡◌, ◌≢◌, ℕ, ◌+◌, ◌*◌, ◌^◌, ◌<◌, ◌≤◌, ◌==◌, Bool, true, false, ◌&&◌, not, Some, List, [], ◌∷◌, ◌++◌, length, sum_by, find, is_some, All}
use Rattle.std.specs.List.{flat_map, concat}
use Rattle.std.specs.Int.{to_be_bytes, w64}
use Rattle.hls_boxes.specs.declared.box_header.BoxHeader.{BoxHeader}
use Rattle.hls_boxes.specs.Boxes.{header_at}
use Rattle.hls_boxes.specs.Kinds.{moov_type, moof_type, mdat_type, unit_limit}
use Rattle.hls_time.specs.Times.{floor_us}
use Rattle.hls_media_laws.specs.Kinds.{traf_type, tfhd_type, tfdt_type, trun_type}
use Rattle.hls_media_laws.specs.Flags.{base_data_offset_present}
use Rattle.hls_media_laws.specs.Fields.{has_flag, tfhd_fits, track_id_of}
use Rattle.hls_media_laws.specs.Runs.{is_sync}
use Rattle.hls_media_laws.specs.InitData.{InitData, timing_track}
use Rattle.hls_media_laws.specs.declared.track.Track.{Track}
use Rattle.hls_media_laws.specs.declared.facts.Facts.{Facts}
use Rattle.hls_media_laws.specs.IsInitOrUnit.{IsUnit}
use Rattle.hls_mend_laws.specs.declared.sample.Sample.{Sample}
use Rattle.hls_mend_laws.specs.Bytes.{words, Box, boxes_bytes}

-- "mfhd" (8.8.5)
abbrev pub mfhd_type : ℕ
mfhd_type = 0x6d666864

-- what a unit of one track fragment says: the boxes before its `moof`, its sequence number, the content of its `tfhd`, its start in ticks,
-- its samples, and their bytes
pub record Fragment : Type 0 where
  pub front : List ℕ
  pub number : ℕ
  pub head : List ℕ
  pub start : ℕ
  pub samples : List Sample
  pub payload : List ℕ

-- the offset of the samples' bytes from the first byte of the `moof`: after the headers of seven boxes, the fields of `mfhd`, `tfdt`
-- and `trun`, the `tfhd`, and a row of 16 bytes for each sample
abbrev pub payload_offset : Fragment → ℕ
payload_offset f = 88 + length f.head + 16 * length f.samples

-- the `mfhd` of a fragment, with its sequence number (8.8.5)
abbrev pub mfhd_of : Fragment → Box
mfhd_of f = record { kind = mfhd_type; content = words (0 ∷ f.number ∷ []) }

-- the `tfhd` of a fragment, with its content as it was read
abbrev pub tfhd_of : Fragment → Box
tfhd_of f = record { kind = tfhd_type; content = f.head }

-- a `tfdt` of version 1, with a start of 64 bits
abbrev pub tfdt_of : ℕ → Box
tfdt_of start = record { kind = tfdt_type; content = words (0x01000000 ∷ []) ++ to_be_bytes w64 start }

-- the fields of a sample in its row of a `trun`, in order
abbrev pub row : Sample → List ℕ
row s = s.duration ∷ s.size ∷ s.flags ∷ s.offset ∷ []

-- a `trun` of version 1, with a data offset and all fields in each row: its flags, the number of samples, the offset, and the rows
abbrev pub trun_of : ℕ → List Sample → Box
trun_of offset ss = record { kind = trun_type; content = words (0x01000f01 ∷ length ss ∷ offset ∷ flat_map row ss) }

-- the `traf` of a fragment: its `tfhd`, its `tfdt` and its `trun`
abbrev pub traf_of : Fragment → Box
traf_of f = record { kind = traf_type; content = boxes_bytes (tfhd_of f ∷ tfdt_of f.start ∷ trun_of (payload_offset f) f.samples ∷ []) }

-- the `moof` of a fragment: its `mfhd` and its `traf`
abbrev pub moof_of : Fragment → Box
moof_of f = record { kind = moof_type; content = boxes_bytes (mfhd_of f ∷ traf_of f ∷ []) }

-- the `mdat` of a fragment, with the bytes of its samples
abbrev pub mdat_of : Fragment → Box
mdat_of f = record { kind = mdat_type; content = f.payload }

-- the bytes of a whole unit: the boxes before its `moof`, the `moof`, and the `mdat`
unfoldable pub fragment_bytes : Fragment → List ℕ
fragment_bytes f = f.front ++ boxes_bytes (moof_of f ∷ mdat_of f ∷ [])

-- the sum of the samples' durations, in ticks
abbrev pub total_duration : List Sample → ℕ
total_duration ss = sum_by (λ (s : Sample). s.duration) ss

-- the sum of the samples' sizes, in bytes
abbrev pub total_size : List Sample → ℕ
total_size ss = sum_by (λ (s : Sample). s.size) ss

-- whether there is a first sample, and it is a sync sample
abbrev pub starts_with_sync : List Sample → Bool
starts_with_sync [] = false
starts_with_sync (s ∷ ss) = is_sync (Some s.flags)

-- each field of a sample fits 32 bits
pub record HasFields (s : Sample) : Type 0 where
  pub duration : s.duration < 2 ^ 32
  pub size : s.size < 2 ^ 32
  pub flags : s.flags < 2 ^ 32
  pub offset : s.offset < 2 ^ 32

-- a complete box that isn't `moov`, `moof` or `mdat`
pub record IsLooseBox (box : List ℕ) : Type 0 where
  pub header : BoxHeader
  pub starts : header_at box ≡ Some header
  pub fits : header.head ≤ header.size
  pub whole : length box ≡ header.size
  pub not_moov : (header.kind == moov_type) ≡ false
  pub not_moof : (header.kind == moof_type) ≡ false
  pub not_mdat : (header.kind == mdat_type) ≡ false

-- loose boxes, one after another
pub record AreLooseBoxes (bytes : List ℕ) : Type 0 where
  pub boxes : List (List ℕ)
  pub each : All IsLooseBox boxes
  pub joined : bytes ≡ concat boxes

-- whether the content of a `tfhd` has its fields and no base data offset, and its track is known and the timing track
abbrev pub is_timing_head : InitData → List ℕ → Bool
is_timing_head init head =
    tfhd_fits head && (not (has_flag head base_data_offset_present) && (is_some (find (λ (k : Track). k.id == track_id_of head) init.tracks) && (track_id_of head == (timing_track init).id)))

-- a start and a duration that a unit can have: it lasts for some microseconds, and its end fits
pub record IsTimeSpan (init : InitData) (start ticks : ℕ) : Type 0 where
  pub end_fits : start + ticks < 2 ^ 64
  pub end_us_fits : floor_us (start + ticks) (timing_track init).scale < 2 ^ 53
  pub some_time : floor_us start (timing_track init).scale ≢ floor_us (start + ticks) (timing_track init).scale

-- a fragment can be written as a unit: loose boxes precede its `moof`, its `tfhd` is of the timing track, its fields fit, its samples
-- fill the payload and last for a time that a unit can have, and it is within the limit of a unit
pub record IsWhole (init : InitData) (f : Fragment) : Type 0 where
  pub loose : AreLooseBoxes f.front
  pub head : is_timing_head init f.head ≡ true
  pub fields : All HasFields f.samples
  pub filled : total_size f.samples ≡ length f.payload
  pub short : length (fragment_bytes f) ≤ unit_limit
  pub time : IsTimeSpan init f.start (total_duration f.samples)

-- the facts of a unit with this start and this duration
abbrev pub span_facts : InitData → ℕ → ℕ → Bool → ℕ → Facts
span_facts init start ticks sync len = record {
  start = start;
  duration = ticks;
  scale = (timing_track init).scale;
  start_us = floor_us start (timing_track init).scale;
  end_us = floor_us (start + ticks) (timing_track init).scale;
  sync = sync;
  len = len;
}

-- the facts of the unit that a fragment is written as
abbrev pub fragment_facts : InitData → Fragment → Facts
fragment_facts init f = span_facts init f.start (total_duration f.samples) (starts_with_sync f.samples) (length (fragment_bytes f))

-- what is written of a whole fragment is a unit with the fragment's facts
abbrev pub FragmentsAreUnits : Type 0
FragmentsAreUnits = (init : InitData) (f : Fragment) → IsWhole init f → IsUnit init (fragment_bytes f) (fragment_facts init f)
