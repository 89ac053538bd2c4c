-- Which renditions are away, and how far each is filled: up to the next boundary of a rendition that is present, or, where that is too far
-- away, from it on.
use Rattle.std.specs.Prelude.{ℕ, zero, suc, ◌+◌, ◌-◌, ◌*◌, ◌/◌, ◌%◌, ◌^◌, nat_le, nat_lt, min, max, Bool, true, false, not, ◌&&◌, ◌||◌, if◌then◌else◌, is_some, Option, Some, None, List, length, drop, slice_index_or}
use Rattle.std.specs.Option.{option_map, option_or}
use Rattle.std.specs.List.{find}
use Rattle.hls_media_laws.specs.declared.facts.Facts.{Facts}
use Rattle.hls_media_laws.specs.FactLists.{fact_at, last_end}
use Rattle.hls_media_laws.specs.InitData.{timing_track}
use Rattle.hls_record.specs.RecordingData.{RecordingData}
use Rattle.hls_core_laws.specs.State.{State}
use Rattle.hls_core_laws.specs.declared.event.Event.{Event, TheVariants.Accept}
use Rattle.hls_core.specs.Getters.{recording_of, finished_at}
use Rattle.hls_mend.specs.MendedUnits.{declared_rate, is_audio, span_filler}
use Rattle.hls_mend.specs.declared.mended.ReadUnit.{ReadUnit}
use Rattle.hls_housekeeper.specs.declared.fill.FillSpan.{FillSpan}

-- ---- open, present and away

-- a recording, unless its rendition is finished
abbrev pub unfinished : Option Bool → Option RecordingData → Option RecordingData
unfinished (Some true) rec = None
unfinished finished rec = rec

-- the recording of a rendition that has begun and isn't finished
abbrev pub open_at : State → ℕ → Option RecordingData
open_at s r = unfinished (finished_at s r) (recording_of s r)

-- whether nothing was heard of the rendition's encoder for too long
abbrev pub is_silent : List Bool → ℕ → Bool
is_silent silent r = slice_index_or silent r false

-- the recording of a rendition whose encoder is there
abbrev pub present_at : State → List Bool → ℕ → Option RecordingData
present_at s silent r = if is_silent silent r then None else open_at s r

-- the recording of a rendition that is away
abbrev pub away_at : State → List Bool → ℕ → Option RecordingData
away_at s silent r = if is_silent silent r then open_at s r else None

-- ---- how far all that are there have come

-- the end of the last unit in microseconds; 0 if there is none
abbrev pub end_us_of : RecordingData → ℕ
end_us_of rec = (fact_at rec.facts (length rec.facts - 1)).end_us

-- the earlier of two times; the only one, if there is one
abbrev pub earlier : Option ℕ → Option ℕ → Option ℕ
earlier None b = b
earlier (Some a) None = Some a
earlier (Some a) (Some b) = Some (min a b)

-- the least end of those of the first n renditions that are there
unfoldable pub least_end : State → List Bool → ℕ → Option ℕ
least_end s silent zero = None
least_end s silent (suc r) = earlier (least_end s silent r) (option_map end_us_of (present_at s silent r))

-- ---- the leader

-- the first of the first n renditions that passes
unfoldable pub first_of : (ℕ → Bool) → ℕ → Option ℕ
first_of test zero = None
first_of test (suc r) = option_or (first_of test r) (if test r then Some r else None)

-- whether there is a recording, and it is of video
abbrev pub is_video_in : Option RecordingData → Bool
is_video_in None = false
is_video_in (Some rec) = not (is_audio rec.init)

-- whether a rendition is present and has video
abbrev pub is_present_video : State → List Bool → ℕ → Bool
is_present_video s silent r = is_video_in (present_at s silent r)

-- whether a rendition is present: open, and its encoder is heard of
abbrev pub is_present : State → List Bool → ℕ → Bool
is_present s silent r = is_some (present_at s silent r)

-- boundaries are those of the first video that is there, or else of the first rendition that is there
abbrev pub leader : State → List Bool → ℕ → Option ℕ
leader s silent n = option_or (first_of (is_present_video s silent) n) (first_of (is_present s silent) n)

-- the recording of a leader, if there is one
abbrev pub leader_from : State → List Bool → Option ℕ → Option RecordingData
leader_from s silent None = None
leader_from s silent (Some r) = present_at s silent r

-- the leader's recording, if there is a leader
abbrev pub leader_at : State → List Bool → ℕ → Option RecordingData
leader_at s silent n = leader_from s silent (leader s silent n)

-- ---- boundaries

-- a second of the clock begins within the unit
abbrev pub begins_second : Facts → Bool
begins_second f = nat_lt ((1000000 - f.start_us % 1000000) % 1000000) (f.end_us - f.start_us)

-- a unit that begins with a sync sample, at least `least_us` after the end. Where audio leads, one for each second, the same for all
-- renditions: every unit of audio begins with a sync sample
abbrev pub is_boundary : Bool → ℕ → ℕ → Facts → Bool
is_boundary leader_is_audio end_us least_us f = (f.sync && (not leader_is_audio || begins_second f)) && nat_le least_us (f.start_us - end_us)

-- the first boundary among the last 4096 units
abbrev pub next_boundary : Bool → ℕ → ℕ → List Facts → Option Facts
next_boundary leader_is_audio end_us least_us fs = find (is_boundary leader_is_audio end_us least_us) (drop (length fs - 4096) fs)

-- how far after a rendition's end the next boundary is, at least, in microseconds: audio is continued by some frames at least
abbrev pub least_span_us : Bool → ℕ
least_span_us true = 100000
least_span_us false = 1

-- ---- spans

-- a time in ticks at another scale, rounded up
abbrev pub rescaled : ℕ → ℕ → ℕ → ℕ
rescaled ticks from to = (ticks * to + (from - 1)) / from

-- a tick, at most the last one of 64 bits
abbrev pub bounded : ℕ → ℕ
bounded tick = min tick (2 ^ 64 - 1)

-- a tick of the leader, in ticks of the rendition
abbrev pub tick_at : RecordingData → RecordingData → ℕ → ℕ
tick_at lead rec tick = rescaled tick (timing_track lead.init).scale (timing_track rec.init).scale

-- from the rendition's end to a boundary that all that are there have reached
abbrev pub span_to : ℕ → RecordingData → RecordingData → Facts → Option FillSpan
span_to limit_us lead rec f =
    if nat_le f.start_us limit_us then Some (record { start = last_end rec.facts; ticks = bounded (tick_at lead rec f.start - last_end rec.facts) }) else None

-- where a filler after a hole ends: with the leader's unit, and not sooner than the least span allows
abbrev pub over_end_us : ℕ → Facts → ℕ
over_end_us least_us f = max f.end_us (f.start_us + least_us)

-- how long a filler after a hole is, in ticks of the rendition: as long as the leader's unit, or as the least span if that is longer
abbrev pub over_ticks : ℕ → RecordingData → RecordingData → Facts → ℕ
over_ticks least_us lead rec f =
    bounded (max (tick_at lead rec (bounded (f.start + f.duration)) - tick_at lead rec f.start) (rescaled least_us 1000000 (timing_track rec.init).scale))

-- after a hole: from the boundary to its end, if all that are there have come up to it, and it isn't longer than `fill_us`
abbrev pub span_over : ℕ → ℕ → ℕ → RecordingData → RecordingData → Facts → Option FillSpan
span_over fill_us limit_us least_us lead rec f =
    if nat_le (over_end_us least_us f) limit_us && nat_le (over_end_us least_us f - f.start_us) fill_us
    then Some (record { start = bounded (tick_at lead rec f.start); ticks = over_ticks least_us lead rec f }) else None

-- up to the boundary if it is at most `fill_us` after the end; otherwise the others have a hole there, and the rendition has it, too
abbrev pub span_by : ℕ → ℕ → RecordingData → RecordingData → Option Facts → Option FillSpan
span_by fill_us limit_us lead rec None = None
span_by fill_us limit_us lead rec (Some f) =
    if nat_le (f.start_us - end_us_of rec) fill_us then span_to limit_us lead rec f else span_over fill_us limit_us (least_span_us (is_audio rec.init)) lead rec f

-- what is filled of a rendition next
abbrev pub fill_span : ℕ → ℕ → RecordingData → RecordingData → Option FillSpan
fill_span fill_us limit_us lead rec =
    span_by fill_us limit_us lead rec (next_boundary (is_audio lead.init) (end_us_of rec) (least_span_us (is_audio rec.init)) lead.facts)

-- ---- fillers

-- the filler of a recording with this declared bit rate for this span, if there is one
abbrev pub filler_in : ℕ → RecordingData → Option FillSpan → Option ReadUnit
filler_in bandwidth rec None = None
filler_in bandwidth rec (Some span) = span_filler bandwidth rec span.start span.ticks

-- the filler that a recording needs next, if it is away, others are present, and one of them leads
abbrev pub next_filler : ℕ → ℕ → Option ℕ → Option RecordingData → Option RecordingData → Option ReadUnit
next_filler bandwidth fill_us (Some limit_us) (Some lead) (Some rec) = filler_in bandwidth rec (fill_span fill_us limit_us lead rec)
next_filler bandwidth fill_us limit_us lead rec = None

-- the filler that a rendition needs next, if it is away and others are there
unfoldable pub filler_of : ℕ → State → List Bool → ℕ → Option ReadUnit
filler_of fill_us s silent r =
    next_filler (declared_rate s.config.renditions r) fill_us (least_end s silent (length s.config.renditions)) (leader_at s silent (length s.config.renditions)) (away_at s silent r)

-- the event of accepting a unit of a rendition
abbrev pub accept_of : ℕ → ReadUnit → Event
accept_of r u = Accept r u.facts u.bytes
