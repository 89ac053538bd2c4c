-- What is recorded for a unit of a rendition whose units are mended: fillers before it if they are needed, and the unit, as it was sent or
-- written again.
use Rattle.std.specs.Prelude.{ℕ, zero, suc, ◌+◌, ◌-◌, ◌*◌, ◌/◌, ◌==◌, nat_lt, min, max, ◌&&◌, Bool, true, false, if◌then◌else◌, Option, Some, None, option_map, option_and_then, Result, Ok, Err, List, [], ◌∷◌, length, slice_get, slice_index_or}
use Rattle.hls_boxes.specs.Kinds.{unit_limit}
use Rattle.hls_core_laws.specs.declared.rendition.Rendition.{Rendition}
use Rattle.hls_media_laws.specs.InitData.{InitData, timing_track}
use Rattle.hls_media_laws.specs.declared.facts.Facts.{Facts}
use Rattle.hls_media_laws.specs.declared.fault.MediaFault.{MediaFault}
use Rattle.hls_media_laws.specs.UnitFacts.{facts}
use Rattle.hls_media_laws.specs.FactLists.{last_end, no_facts}
use Rattle.hls_record.specs.RecordingData.{RecordingData, unit_at}
use Rattle.hls_mend_laws.specs.declared.limits.MendLimits.{MendLimits}
use Rattle.hls_mend_laws.specs.declared.treatment.UnitSpan.{UnitSpan}
use Rattle.hls_mend_laws.specs.declared.treatment.Treatment.{Treatment}
use Rattle.hls_mend_laws.specs.Cuts.{cut_unit}
use Rattle.hls_mend_laws.specs.Fillers.{held_unit, silent_unit}
use Rattle.hls_mend_laws.specs.Retimed.{retimed_unit}
use Rattle.hls_mend_laws.specs.Treatments.{treatment_of}
use Rattle.hls_mend_laws.specs.declared.settings.MendSettings.{MendSettings}
use Rattle.hls_mend_laws.specs.declared.treatment.Treatment.TheVariants as treatments
use Rattle.hls_mend_laws.specs.declared.filler.FillerSpan.{FillerSpan}
use Rattle.hls_mend.specs.Silence.{Sound, sound_of, sound_view}
use Rattle.hls_mend.specs.Spans.{first_duration}
use Rattle.hls_mend.specs.declared.gap.FillerSource as sources
use Rattle.hls_mend.specs.declared.mended.MendedUnit.{MendedUnit}
use Rattle.hls_mend.specs.declared.mended.ReadUnit.{ReadUnit}

-- ---- limits

-- a time of `us` microseconds in whole ticks; part of a tick is left out
abbrev pub ticks_of : ℕ → ℕ → ℕ
ticks_of us scale = us * scale / 1000000

-- the limits of mending, in ticks of a rendition
abbrev pub limits_of : MendSettings → InitData → MendLimits
limits_of settings init = record { snap = ticks_of settings.snap_us (timing_track init).scale; fill = ticks_of settings.fill_us (timing_track init).scale }

-- whether the timing track is audio: its handler is "soun" (8.4.3)
abbrev pub is_audio : InitData → Bool
is_audio init = (timing_track init).handler == 0x736f756e

-- ---- units with their facts

-- bytes with the facts that were read of them, if they are a unit
abbrev pub unit_by : List ℕ → Result Facts MediaFault → Option ReadUnit
unit_by bytes (Ok f) = Some (record { facts = f; bytes = bytes })
unit_by bytes (Err fault) = None

-- bytes with their facts, if they are a unit
abbrev pub read_as_unit : InitData → List ℕ → Option ReadUnit
read_as_unit init bytes = unit_by bytes (facts init bytes)

-- the unit, if it covers exactly the ticks from `start` to `end`
abbrev pub with_span : ℕ → ℕ → ReadUnit → Option ReadUnit
with_span start end u = if (u.facts.start == start) && (u.facts.start + u.facts.duration == end) then Some u else None

-- what mending made, if it is a unit that covers exactly the ticks from `start` to `end`
abbrev pub made_span : InitData → ℕ → ℕ → Option (List ℕ) → Option ReadUnit
made_span init start end made = option_and_then (with_span start end) (option_and_then (read_as_unit init) made)

-- ---- treatments

-- the tick at which a rendition ends, if it has a unit
abbrev pub end_of : RecordingData → Option ℕ
end_of rec = if length rec.facts == 0 then None else Some (last_end rec.facts)

-- what the treatment of a unit depends on: its times, the duration of its first sample, and whether it is audio, which may be cut
abbrev pub span_of : InitData → Facts → ℕ → UnitSpan
span_of init f first = record { start = f.start; duration = f.duration; first = first; may_be_cut = is_audio init }

-- the treatment of a unit, given the duration of its first sample; without one, mending can't write the unit again, so it is kept
-- as far as the channel accepts it
abbrev pub treatment_by : InitData → RecordingData → MendLimits → Facts → Option ℕ → Treatment
treatment_by init rec limits f None = treatments.Keep
treatment_by init rec limits f (Some first) = treatment_of limits (end_of rec) (span_of init f first)

-- the treatment of a unit, given the recording of its rendition
unfoldable pub unit_treatment : InitData → RecordingData → MendLimits → ReadUnit → Treatment
unit_treatment init rec limits u = treatment_by init rec limits u.facts (first_duration init u.bytes)

-- ---- fillers

-- the number of the last of the first `count` units that begins with a sync sample, if one of the last `most` of them does
unfoldable pub last_sync : ℕ → List Facts → ℕ → Option ℕ
last_sync zero fs count = None
last_sync (suc most) fs zero = None
last_sync (suc most) fs (suc n) = if (slice_index_or fs n no_facts).sync then Some n else last_sync most fs n

-- the number of the unit that fillers are made of: of audio the last one, of video the last of the newest 4096 that begins with
-- a sync sample
unfoldable pub filler_source : Bool → List Facts → Option ℕ
filler_source true fs = if length fs == 0 then None else Some (length fs - 1)
filler_source false fs = last_sync 4096 fs (length fs)

-- the bit rate that a channel declares of rendition n, in bits per second; 0 if it has no such rendition
abbrev pub rate_in : Option Rendition → ℕ
rate_in None = 0
rate_in (Some r) = r.bandwidth

-- the same, by the channel's renditions
abbrev pub declared_rate : List Rendition → ℕ → ℕ
declared_rate rs n = rate_in (slice_get rs n)

-- what fillers are made of: a recorded unit, the sound that is repeated if it is audio, and the declared bit rate
pub record FillerSource : Type 0 where
  pub unit : List ℕ
  pub sound : Option Sound
  pub bandwidth : ℕ

-- the source of fillers as contracts see it, with lists in place of slices
abbrev pub source_view : sources.FillerSource → FillerSource
source_view s = record { unit = s.unit.now; sound = option_map sound_view s.sound; bandwidth = s.bandwidth }

-- the most bytes of a filler's samples: twice the declared bit rate for its time, and no more than a unit may have
abbrev pub filler_most : InitData → ℕ → ℕ → ℕ
filler_most init bandwidth ticks = min (bandwidth * ticks / (4 * (timing_track init).scale)) unit_limit

-- the span of a filler
abbrev pub span_for : InitData → ℕ → ℕ → ℕ → FillerSpan
span_for init bandwidth start ticks = record { start = start; ticks = ticks; most = filler_most init bandwidth ticks }

-- the bytes of a filler: of audio its frame as often as needed, of video the recorded unit's first sample for the whole time
abbrev pub filler_bytes : InitData → List ℕ → Option Sound → FillerSpan → Option (List ℕ)
filler_bytes init unit None span = held_unit init unit span
filler_bytes init unit (Some sound) span = silent_unit init unit sound.length sound.silent span

-- a filler from `start` for the given number of ticks, if one can be made
abbrev pub filler : InitData → FillerSource → ℕ → ℕ → Option ReadUnit
filler init s start ticks = made_span init start (start + ticks) (filler_bytes init s.unit s.sound (span_for init s.bandwidth start ticks))

-- how long the fillers of a gap are: as long as the unit after it, so that boundaries are as close to each other, and at least a 64th of
-- the gap
abbrev pub filler_len : ℕ → ℕ → ℕ
filler_len duration gap = max duration ((gap + 63) / 64)

-- the duration of the next filler; the last one takes the rest
abbrev pub filler_ticks : ℕ → ℕ → ℕ
filler_ticks len gap = if nat_lt gap (2 * len) then gap else len

-- a filler, and those after it
abbrev pub fillers_after : (ℕ → List ReadUnit) → ℕ → Option ReadUnit → List ReadUnit
fillers_after others next None = []
fillers_after others next (Some u) = u ∷ others next

-- fillers from a tick to another, at most `most` of them; none follow one that can't be made
unfoldable pub fillers_from : ℕ → InitData → FillerSource → ℕ → ℕ → ℕ → List ReadUnit
fillers_from zero init s len start end = []
fillers_from (suc most) init s len start end =
    if nat_lt start end
    then fillers_after (λ (next : ℕ). fillers_from most init s len next end) (start + filler_ticks len (end - start)) (filler init s start (filler_ticks len (end - start)))
    else []

-- what fillers are made of, given the recorded unit's bytes
abbrev pub source_with : ℕ → Option Sound → List ℕ → FillerSource
source_with bandwidth sound unit = record { unit = unit; sound = sound; bandwidth = bandwidth }

-- what fillers of a rendition are made of, given the number of the unit, if there is one and its bytes are kept
abbrev pub source_by : ℕ → RecordingData → Option Sound → Option ℕ → Option FillerSource
source_by bandwidth rec sound None = None
source_by bandwidth rec sound (Some n) = option_map (source_with bandwidth sound) (unit_at rec n)

-- what fillers of audio are made of, if it is known how long its frames are
abbrev pub audio_source : ℕ → RecordingData → Option Sound → Option FillerSource
audio_source bandwidth rec None = None
audio_source bandwidth rec (Some sound) = source_by bandwidth rec (Some sound) (filler_source true rec.facts)

-- what fillers of a rendition with this declared bit rate are made of, if it has such a unit
unfoldable pub source_of : ℕ → InitData → RecordingData → Option FillerSource
source_of bandwidth init rec =
    if is_audio init then audio_source bandwidth rec (sound_of (timing_track init).scale rec.head)
    else source_by bandwidth rec None (filler_source false rec.facts)

-- a filler from `start` for the given number of ticks, if there is a source and one can be made of it
abbrev pub span_filler_by : InitData → ℕ → ℕ → Option FillerSource → Option ReadUnit
span_filler_by init start ticks None = None
span_filler_by init start ticks (Some s) = filler init s start ticks

-- a filler of a rendition from `start` for the given number of ticks, if one can be made
unfoldable pub span_filler : ℕ → RecordingData → ℕ → ℕ → Option ReadUnit
span_filler bandwidth rec start ticks = span_filler_by rec.init start ticks (source_of bandwidth rec.init rec)

-- the fillers from `start` to `end`, at most 64, or none without a source
abbrev pub fillers_by : InitData → ℕ → ℕ → ℕ → Option FillerSource → List ReadUnit
fillers_by init len start end None = []
fillers_by init len start end (Some s) = fillers_from 64 init s len start end

-- the fillers of a gap from the end of the rendition to a unit
unfoldable pub fillers_to : ℕ → InitData → RecordingData → Facts → List ReadUnit
fillers_to bandwidth init rec f =
    fillers_by init (filler_len f.duration (f.start - last_end rec.facts)) (last_end rec.facts) f.start (source_of bandwidth init rec)

-- ---- what is recorded

-- fillers, and the unit after them: as it was sent, or written again
pub record Mended : Type 0 where
  pub fillers : List ReadUnit
  pub unit : ReadUnit
  pub is_changed : Bool

-- what is recorded for a unit as contracts see it, with lists in place of vectors
abbrev pub mended_view : MendedUnit → Mended
mended_view m = record { fillers = m.fillers.items; unit = m.unit; is_changed = m.is_changed }

-- a unit that is recorded as it was sent, without fillers
abbrev pub as_sent : ReadUnit → Mended
as_sent u = record { fillers = []; unit = u; is_changed = false }

-- the unit that was made of it, or else the unit as it was sent
abbrev pub changed_to : ReadUnit → Option ReadUnit → Mended
changed_to sent None = as_sent sent
changed_to sent (Some made) = record { fillers = []; unit = made; is_changed = true }

-- what is recorded for a unit with a treatment other than Cut
unfoldable pub mended_by : ℕ → Treatment → InitData → RecordingData → ReadUnit → Mended
mended_by bandwidth treatments.Retime init rec u =
    changed_to u (made_span init (last_end rec.facts) (u.facts.start + u.facts.duration) (retimed_unit init u.bytes (last_end rec.facts)))
mended_by bandwidth treatments.Fill init rec u = record { fillers = fillers_to bandwidth init rec u.facts; unit = u; is_changed = false }
mended_by bandwidth treatment init rec u = as_sent u

-- the rest of a unit that was cut is treated as a unit of its own, and isn't cut again
abbrev pub mended_rest : ℕ → InitData → RecordingData → MendLimits → ReadUnit → Option ReadUnit → Mended
mended_rest bandwidth init rec limits sent None = as_sent sent
mended_rest bandwidth init rec limits sent (Some rest) = record (mended_by bandwidth (unit_treatment init rec limits rest) init rec rest) { is_changed = true }

-- what is recorded for a unit with this treatment
abbrev pub mended_as : ℕ → Treatment → InitData → RecordingData → MendLimits → ReadUnit → Mended
mended_as bandwidth treatments.Cut init rec limits u =
    mended_rest bandwidth init rec limits u (option_and_then (read_as_unit init) (cut_unit init u.bytes limits.snap (last_end rec.facts)))
mended_as bandwidth treatment init rec limits u = mended_by bandwidth treatment init rec u

-- what is recorded for a unit, given its rendition's recording and its declared bit rate
unfoldable pub mended_unit : MendSettings → ℕ → InitData → RecordingData → ReadUnit → Mended
mended_unit settings bandwidth init rec u = mended_as bandwidth (unit_treatment init rec (limits_of settings init) u) init rec (limits_of settings init) u
