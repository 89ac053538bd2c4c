-- Reads a unit of one track fragment whose `traf` has one `trun` and no box that mending couldn't keep (ISO/IEC 14496-12 8.8.4 to 8.8.8,
-- 8.8.12). Other units are never written again: those of several tracks or several runs, and those whose `traf` has sample auxiliary
-- information or other boxes, which hold offsets and counts of their own.
use Rattle.std.specs.Prelude.{ℕ, zero, suc, ◌+◌, ◌^◌, ◌==◌, nat_lt, nat_le, Bool, true, false, ◌&&◌, ◌||◌, if◌then◌else◌, Option, Some, None, unwrap_or, option_map, option_and_then, List, [], ◌∷◌, ◌++◌, length, take, drop, find, slice_range}
use Rattle.std.specs.List.{list_all}
use Rattle.std.specs.Option.{option_or}
use Rattle.std.specs.Int.{w32}
use Rattle.hls_boxes.specs.declared.box_header.BoxHeader.{BoxHeader}
use Rattle.hls_boxes.specs.Boxes.{number_at, box_at}
use Rattle.hls_boxes.specs.Kinds.{moov_type, moof_type, mdat_type}
use Rattle.hls_media_laws.specs.Kinds.{traf_type, tfhd_type, tfdt_type, trun_type}
use Rattle.hls_media_laws.specs.Flags.{sample_duration_present, sample_size_present, sample_flags_present, sample_composition_time_offsets_present}
use Rattle.hls_media_laws.specs.Fields.{has_flag, version_of, field_width, track_id_of, tfhd_fits, tfdt_fits, trun_fits, default_duration, default_size, default_flags, decode_time, sample_count, rows_offset, first_flags_of}
use Rattle.hls_media_laws.specs.InitData.{InitData}
use Rattle.hls_media_laws.specs.declared.track.Track.{Track}
use Rattle.hls_media_laws.specs.declared.track.TrexDefaults.{TrexDefaults}
use Rattle.hls_mend_laws.specs.declared.sample.Sample.{Sample}
use Rattle.hls_mend_laws.specs.declared.row_format.Column.{Column}
use Rattle.hls_mend_laws.specs.declared.row_format.RowFormat.{RowFormat}
use Rattle.hls_mend_laws.specs.declared.row_format.SampleDefaults.{SampleDefaults}
use Rattle.hls_mend_laws.specs.Fragments.{Fragment, mfhd_type, total_size}

-- "sidx" (8.16.3): it has the sizes and times of units as they were sent
abbrev pub sidx_type : ℕ
sidx_type = 0x73696478

-- the content of the box at the start of the bytes, and the bytes after it
pub record Split : Type 0 where
  pub content : List ℕ
  pub rest : List ℕ

-- the split after a header that was found, if its box has the given type
abbrev pub split_at : ℕ → List ℕ → Option BoxHeader → Option Split
split_at kind bytes None = None
split_at kind bytes (Some h) =
    if h.kind == kind then Some (record { content = slice_range bytes h.head h.size; rest = drop h.size bytes }) else None

-- the complete box at the start of the bytes, if it has this type
unfoldable pub split_box : ℕ → List ℕ → Option Split
split_box kind bytes = split_at kind bytes (box_at bytes)

-- the content of a box that was split off, if nothing follows it
abbrev pub last_content : Option Split → Option (List ℕ)
last_content None = None
last_content (Some s) = if length s.rest == 0 then Some s.content else None

-- the content of the one box of this type that the bytes are, or None if they aren't exactly one
unfoldable pub only_box : ℕ → List ℕ → Option (List ℕ)
only_box kind bytes = last_content (split_box kind bytes)

-- the boxes before the `moof` except `sidx`, and the bytes from the `moof` on
pub record Front : Type 0 where
  pub kept : List ℕ
  pub rest : List ℕ

-- the front by its first box's header: a `moof` ends it, `sidx` is left out, and `moov` and `mdat` aren't allowed; other boxes are kept
abbrev pub front_after : (List ℕ → Option Front) → List ℕ → Option BoxHeader → Option Front
front_after others bytes None = None
front_after others bytes (Some h) =
    if h.kind == moof_type then Some (record { kept = []; rest = bytes })
    else (if h.kind == moov_type || h.kind == mdat_type then None
    else (if h.kind == sidx_type then others (drop h.size bytes)
    else option_map (λ (f : Front). record { kept = take h.size bytes ++ f.kept; rest = f.rest }) (others (drop h.size bytes))))

-- the front of a unit, if its `moof` is one of the first `most` boxes
unfoldable pub front_within : ℕ → List ℕ → Option Front
front_within zero bytes = None
front_within (suc most) bytes = front_after (front_within most) bytes (box_at bytes)

-- the boxes before the `moof` of a unit, and the rest; None if there is no `moof`, or a `moov`, an `mdat` or an incomplete box precedes it
unfoldable pub front_of : List ℕ → Option Front
front_of unit = front_within (suc (length unit)) unit

-- the contents of the boxes of a `traf` that has exactly one `tfhd`, one `tfdt` and one `trun`, in this order
pub record TrafParts : Type 0 where
  pub head : List ℕ
  pub time : List ℕ
  pub run : List ℕ

-- the parts of a `traf` by its `tfhd` and its `tfdt`, if exactly a `trun` follows
abbrev pub with_run : List ℕ → Split → Option TrafParts
with_run head time = option_map (λ (run : List ℕ). record { head = head; time = time.content; run = run }) (only_box trun_type time.rest)

-- the parts of a `traf` by its `tfhd`, if exactly a `tfdt` and a `trun` follow
abbrev pub with_time : Split → Option TrafParts
with_time head = option_and_then (with_run head.content) (split_box tfdt_type head.rest)

-- the parts of a `traf` with this content, or None if it has other boxes or another order
unfoldable pub traf_parts : List ℕ → Option TrafParts
traf_parts traf = option_and_then with_time (split_box tfhd_type traf)

-- the parts of a `moof` that has exactly one `mfhd`, whose second field is the sequence number, and one `traf`
pub record MoofParts : Type 0 where
  pub number : ℕ
  pub traf : TrafParts

-- the parts of a `moof` by its `mfhd`, if that has its two fields, and by its `traf`
abbrev pub with_number : List ℕ → TrafParts → Option MoofParts
with_number mfhd traf = if nat_le 8 (length mfhd) then Some (record { number = number_at w32 4 mfhd; traf = traf }) else None

-- the parts of a `moof` by its `mfhd`, if exactly a `traf` that can be read follows
abbrev pub with_traf : Split → Option MoofParts
with_traf mfhd = option_and_then (with_number mfhd.content) (option_and_then traf_parts (only_box traf_type mfhd.rest))

-- the parts of a `moof` with this content, or None if it has other boxes or another order, or its `traf` has
unfoldable pub moof_parts : List ℕ → Option MoofParts
moof_parts moof = option_and_then with_traf (split_box mfhd_type moof)

-- the parts of a unit: the boxes before its `moof` except `sidx`, the `moof`, and the content of the `mdat` right after it
pub record UnitParts : Type 0 where
  pub front : List ℕ
  pub moof : MoofParts
  pub payload : List ℕ

-- the parts of a unit by its front and its `moof`, if exactly an `mdat` follows
abbrev pub with_payload : Front → Split → Option UnitParts
with_payload front moof =
    option_and_then (λ (m : MoofParts). option_map (λ (payload : List ℕ). record { front = front.kept; moof = m; payload = payload }) (only_box mdat_type moof.rest))
    (moof_parts moof.content)

-- the parts of a unit by its front, if exactly a `moof` that can be read and an `mdat` follow
abbrev pub with_moof : Front → Option UnitParts
with_moof front = option_and_then (with_payload front) (split_box moof_type front.rest)

-- the parts of a unit, or None if mending can't keep its boxes
unfoldable pub unit_parts : List ℕ → Option UnitParts
unit_parts unit = option_and_then with_moof (front_of unit)

-- the defaults in the `trex` of the track that a `tfhd` names
abbrev pub trex_of_head : List Track → List ℕ → Option TrexDefaults
trex_of_head tracks head = option_and_then (λ (k : Track). k.defaults) (find (λ (k : Track). k.id == track_id_of head) tracks)

-- the defaults of the samples: those of the `tfhd`, or else those of the `trex` of its track
unfoldable pub sample_defaults : List Track → List ℕ → SampleDefaults
sample_defaults tracks head = record {
  duration = option_or (default_duration head) (option_map (λ (d : TrexDefaults). d.duration) (trex_of_head tracks head));
  size = option_or (default_size head) (option_map (λ (d : TrexDefaults). d.size) (trex_of_head tracks head));
  flags = option_or (default_flags head) (option_map (λ (d : TrexDefaults). d.flags) (trex_of_head tracks head));
}

-- a field of the rows, or the value of all samples if rows don't have it; None if there is neither
abbrev pub column : Bool → Option ℕ → Option Column
column true default = Some (record { present = true; default = unwrap_or default 0 })
column false None = None
column false (Some value) = Some (record { present = false; default = value })

-- a composition offset that rows don't have is 0
abbrev pub offset_column : List ℕ → Column
offset_column run = record { present = has_flag run sample_composition_time_offsets_present; default = 0 }

-- the format of a run's rows with these columns for duration, size and flags, and the composition offsets by the run's own flags
abbrev pub format_with : List ℕ → Column → Column → Column → RowFormat
format_with run duration size flags = record { duration = duration; size = size; flags = flags; offset = offset_column run }

-- the format of a run's rows, or None if rows lack a field that has no default
unfoldable pub row_format : SampleDefaults → List ℕ → Option RowFormat
row_format d run =
    option_and_then (λ (duration : Column). option_and_then (λ (size : Column). option_map (format_with run duration size) (column (has_flag run sample_flags_present) d.flags))
    (column (has_flag run sample_size_present) d.size)) (column (has_flag run sample_duration_present) d.duration)

-- the value of a field: the one at the start of the bytes if rows have the field, or else its default
abbrev pub field_value : Column → List ℕ → ℕ
field_value c bytes = if c.present then number_at w32 0 bytes else c.default

-- the bytes after a field, which has no bytes if rows don't have it
abbrev pub after_field : Column → List ℕ → List ℕ
after_field c bytes = drop (field_width c.present) bytes

-- the sample of the row at the start of the bytes, whose fields follow one another
abbrev pub row_sample : RowFormat → List ℕ → Sample
row_sample form bytes = record {
  duration = field_value form.duration bytes;
  size = field_value form.size (after_field form.duration bytes);
  flags = field_value form.flags (after_field form.size (after_field form.duration bytes));
  offset = field_value form.offset (after_field form.flags (after_field form.size (after_field form.duration bytes)));
}

-- the bytes after the row at their start
abbrev pub after_row : RowFormat → List ℕ → List ℕ
after_row form bytes = after_field form.offset (after_field form.flags (after_field form.size (after_field form.duration bytes)))

-- the length of a row, in bytes
abbrev pub row_width : RowFormat → ℕ
row_width form = field_width form.duration.present + field_width form.size.present + field_width form.flags.present + field_width form.offset.present

-- the samples of the first `n` rows
unfoldable pub rows_samples : ℕ → RowFormat → List ℕ → List Sample
rows_samples zero form bytes = []
rows_samples (suc n) form bytes = row_sample form bytes ∷ rows_samples n form (after_row form bytes)

-- the flags that a `trun` has for its first sample replace those of its row
abbrev pub with_first_flags : Option ℕ → List Sample → List Sample
with_first_flags None ss = ss
with_first_flags (Some flags) [] = []
with_first_flags (Some flags) (s ∷ ss) = record s { flags = flags } ∷ ss

-- the samples of a `trun` whose fields are within it, or None if a field of the samples has no value
unfoldable pub run_samples : SampleDefaults → List ℕ → Option (List Sample)
run_samples d run =
    option_map (λ (form : RowFormat). with_first_flags (first_flags_of run) (rows_samples (sample_count run) form (drop (rows_offset run) run))) (row_format d run)

-- offsets are signed in version 1 and unsigned in version 0: a run of version 0 must have them below 2^31, where both are the same
abbrev pub keeps_offset : Bool → Sample → Bool
keeps_offset is_signed s = is_signed || nat_lt s.offset (2 ^ 31)

-- whether all samples of a run keep their composition offsets when the run is written in version 1
abbrev pub keeps_offsets : List ℕ → List Sample → Bool
keeps_offsets run ss = list_all (keeps_offset (nat_lt 0 (version_of run))) ss

-- the fields that are read are within their boxes
abbrev pub traf_fits : TrafParts → Bool
traf_fits t = tfhd_fits t.head && (tfdt_fits t.time && trun_fits t.run)

-- the most samples of a unit that is taken apart
abbrev pub most_samples : ℕ
most_samples = 65536

-- the fields are within their boxes, and there are no more samples than payload bytes, so that a unit never takes more memory than
-- a multiple of its length, and no more than are taken apart
abbrev pub is_readable : UnitParts → Bool
is_readable u =
    traf_fits u.moof.traf && (nat_le (sample_count u.moof.traf.run) (length u.payload) && nat_le (sample_count u.moof.traf.run) most_samples)

-- the fragment with a unit's parts and these samples
abbrev pub fragment_with : UnitParts → List Sample → Fragment
fragment_with u ss = record {
  front = u.front;
  number = u.moof.number;
  head = u.moof.traf.head;
  start = decode_time u.moof.traf.time;
  samples = ss;
  payload = u.payload;
}

-- the fragment with these samples, if they fill the `mdat` and their composition offsets are kept
abbrev pub checked_fragment : UnitParts → List Sample → Option Fragment
checked_fragment u ss =
    if (total_size ss == length u.payload) && keeps_offsets u.moof.traf.run ss then Some (fragment_with u ss) else None

-- the fragment of a unit's parts, or None if its samples can't be read or written again
abbrev pub fragment_from : List Track → UnitParts → Option Fragment
fragment_from tracks u =
    if is_readable u then option_and_then (checked_fragment u) (run_samples (sample_defaults tracks u.moof.traf.head) u.moof.traf.run)
    else None

-- the fragment that a unit is, or None if mending can't write the unit again
unfoldable pub fragment_of : InitData → List ℕ → Option Fragment
fragment_of init unit = option_and_then (fragment_from init.tracks) (unit_parts unit)
