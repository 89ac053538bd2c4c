-- The frame rate of a video track, from the durations of samples in units (ISO/IEC 14496-12 8.8.7, 8.8.8).
use Rattle.std.specs.Prelude.{ℕ, zero, suc, ◌+◌, ◌*◌, ◌/◌, ◌^◌, ◌≤◌, ◌==◌, nat_lt, nat_le, min, max, Bool, ◌&&◌, ◌||◌, not, if◌then◌else◌, Option, Some, None, option_map, option_and_then, List, [], ◌∷◌, length, drop, fold, replicate}
use Rattle.std.specs.Option.{option_or}
use Rattle.hls_boxes.specs.Kinds.{moof_type}
use Rattle.hls_media_laws.specs.Kinds.{traf_type, tfhd_type, trun_type}
use Rattle.hls_media_laws.specs.Flags.{sample_duration_present}
use Rattle.hls_media_laws.specs.Fields.{has_flag, track_id_of, tfhd_fits, default_duration, sample_count, rows_offset, row_len, trun_fits, column}
use Rattle.hls_media_laws.specs.declared.track.Track.{Track}
use Rattle.hls_media_laws.specs.declared.track.TrexDefaults.{TrexDefaults}
use Rattle.hls_codecs.specs.Boxes.{box_in}
use Rattle.hls_codecs.specs.declared.sample_durations.DurationRange.{DurationRange}

-- the durations of the samples of a run, its own or this default for each; None if it needs a default and there is none
abbrev pub run_durations : Option ℕ → List ℕ → Option (List ℕ)
run_durations default run =
    if has_flag run sample_duration_present then Some (column (sample_count run) (row_len run) 0 (drop (rows_offset run) run))
    else option_map (λ (d : ℕ). replicate (sample_count run) d) default

-- the range of one duration: the shortest, the longest, their sum and their number
abbrev pub one_duration : ℕ → DurationRange
one_duration d = record { least = d; most = d; total = d; count = 1 }

-- the range with one more duration
abbrev pub and_duration : DurationRange → ℕ → DurationRange
and_duration r d = record { least = min r.least d; most = max r.most d; total = r.total + d; count = r.count + 1 }

-- the range of some durations; None if there is none
unfoldable pub range_of_durations : List ℕ → Option DurationRange
range_of_durations [] = None
range_of_durations (d ∷ ds) = Some (fold and_duration (one_duration d) ds)

-- frames per second in thousandths, a half rounded up, of this many frames in this many ticks
abbrev pub frames_in : ℕ → ℕ → ℕ → ℕ
frames_in scale frames ticks = (2000 * scale * frames + ticks) / (2 * ticks)

-- a rate of no picture, or above a thousand frames per second, isn't a rate
abbrev pub some_rate : ℕ → Option ℕ
some_rate n = if nat_lt 0 n && nat_le n 1000000 then Some n else None

-- frames per second in thousandths, by the shortest duration; if all are equal but for rounding to ticks, by their mean
unfoldable pub rate_of_range : ℕ → DurationRange → Option ℕ
rate_of_range scale r =
    if r.least == 0 then None
    else (if nat_le r.most (r.least + 1) then some_rate (frames_in scale r.count r.total) else some_rate (frames_in scale 1 r.least))

-- the range of the durations of two ranges together
abbrev pub both_ranges : DurationRange → DurationRange → DurationRange
both_ranges r q = record { least = min r.least q.least; most = max r.most q.most; total = r.total + q.total; count = r.count + q.count }

-- the range of both, if both are there, or of the one that is there
unfoldable pub join_ranges : Option DurationRange → Option DurationRange → Option DurationRange
join_ranges None q = q
join_ranges (Some r) None = Some r
join_ranges (Some r) (Some q) = Some (both_ranges r q)

-- the range's sum and number are within what 64 bits of ticks in each of `units` units allow
pub record IsModest (units : ℕ) (r : DurationRange) : Type 0 where
  pub total : r.total ≤ units * 2 ^ 64
  pub count : r.count ≤ units * 2 ^ 32
  pub least : r.least ≤ r.total
  pub some : 1 ≤ r.count

-- the durations of the samples of a run, if its fields are within it
unfoldable pub run_durations_in : Option ℕ → List ℕ → Option (List ℕ)
run_durations_in default run = if nat_lt (length run) 8 || not (trun_fits run) then None else run_durations default run

-- the default sample duration of a track's `trex`, if it has one
abbrev pub trex_duration : Track → Option ℕ
trex_duration track = option_map (λ (d : TrexDefaults). d.duration) track.defaults

-- the range of the durations in a run
abbrev pub range_of_run : Option ℕ → List ℕ → Option DurationRange
range_of_run default run = option_and_then range_of_durations (run_durations_in default run)

-- the range of the durations in the first run of a `traf`, with the default of its `tfhd`, or else of the track's `trex`
unfoldable pub range_of_traf : Track → List ℕ → List ℕ → Option DurationRange
range_of_traf track head traf =
    option_and_then (range_of_run (option_or (default_duration head) (trex_duration track))) (box_in trun_type 0 traf)

-- whether the fields of a `tfhd` are within it
abbrev pub head_is_whole : List ℕ → Bool
head_is_whole head = nat_le 8 (length head) && tfhd_fits head

-- the `tfhd`, if it is whole and of this track
abbrev pub if_of_track : ℕ → List ℕ → Option (List ℕ)
if_of_track id head = if head_is_whole head && track_id_of head == id then Some head else None

-- the `tfhd` of a `traf`, if it is whole and of this track
unfoldable pub head_of_track : ℕ → List ℕ → Option (List ℕ)
head_of_track id traf = option_and_then (if_of_track id) (box_in tfhd_type 0 traf)

-- the durations in a `traf` with this `tfhd`, or those of the other fragments if it isn't the track's
abbrev pub range_with_head : Track → List ℕ → Option DurationRange → Option (List ℕ) → Option DurationRange
range_with_head track traf others None = others
range_with_head track traf others (Some head) = range_of_traf track head traf

-- the durations in this `traf` if it is the track's, or those of the other fragments; none if there is no further `traf`
abbrev pub range_with_traf : Track → Option DurationRange → Option (List ℕ) → Option DurationRange
range_with_traf track others None = None
range_with_traf track others (Some traf) = range_with_head track traf others (head_of_track track.id traf)

-- the durations in the track's first fragment among at most `most` from number n on
unfoldable pub range_from : ℕ → ℕ → Track → List ℕ → Option DurationRange
range_from zero n track moof = None
range_from (suc most) n track moof = range_with_traf track (range_from most (suc n) track moof) (box_in traf_type n moof)

-- the durations of a track's samples in a unit, among the first eight fragments of its `moof`
unfoldable pub durations_in : Track → List ℕ → Option DurationRange
durations_in track unit = option_and_then (range_from 8 0 track) (box_in moof_type 0 unit)
