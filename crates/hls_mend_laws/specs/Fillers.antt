-- Fillers: units that mending makes of a recorded unit to fill a gap.
use Rattle.std.specs.Prelude.{◌≡◌, true, ℕ, zero, suc, ◌+◌, ◌*◌, ◌-◌, ◌/◌, ◌^◌, ◌==◌, nat_lt, nat_le, Bool, ◌&&◌, if◌then◌else◌, Option, Some, None, option_and_then, List, [], ◌∷◌, ◌++◌, length, take, replicate, All}
use Rattle.std.specs.List.{concat}
use Rattle.hls_media_laws.specs.InitData.{InitData}
use Rattle.hls_media_laws.specs.declared.facts.Facts.{Facts}
use Rattle.hls_media_laws.specs.IsInitOrUnit.{IsUnit}
use Rattle.hls_mend_laws.specs.declared.sample.Sample.{Sample}
use Rattle.hls_mend_laws.specs.declared.filler.FillerSpan.{FillerSpan}
use Rattle.hls_mend_laws.specs.declared.filler.FrameLength.{FrameLength}
use Rattle.hls_mend_laws.specs.Fragments.{Fragment, HasFields, IsTimeSpan, span_facts}
use Rattle.hls_mend_laws.specs.FragmentsRead.{fragment_of, most_samples}
use Rattle.hls_mend_laws.specs.Retimed.{written}

-- the fragment of a filler: without boxes before its `moof`, and with the sequence number and the `tfhd` of the recorded unit
abbrev pub filler_of : Fragment → ℕ → List Sample → List ℕ → Fragment
filler_of source start samples payload = record source { front = []; start = start; samples = samples; payload = payload }

-- a span that a filler can have: its ticks are above 0 and fit 32 bits
abbrev pub is_span : FillerSpan → Bool
is_span span = nat_lt 0 span.ticks && nat_lt span.ticks (2 ^ 32)

-- the first of these samples of the recorded unit, for the whole span, if it isn't larger than the filler may be
abbrev pub held_from : Fragment → FillerSpan → List Sample → Option Fragment
held_from source span [] = None
held_from source span (first ∷ others) =
    if is_span span && nat_le first.size span.most
    then Some (filler_of source span.start (record first { duration = span.ticks } ∷ []) (take first.size source.payload)) else None

-- the fragment that holds the recorded unit's first sample for the span
abbrev pub held : FillerSpan → Fragment → Option Fragment
held span source = held_from source span source.samples

-- a filler that holds the first sample of a recorded unit: the last picture freezes
unfoldable pub held_unit : InitData → List ℕ → FillerSpan → Option (List ℕ)
held_unit init unit span = option_and_then written (option_and_then (held span) (fragment_of init unit))

-- one frame of silence; frames don't depend on each other
abbrev pub silent_sample : ℕ → ℕ → Sample
silent_sample ticks size = record { duration = ticks; size = size; flags = 0x02000000; offset = 0 }

-- the tick at which the first n frames end, counted from their start; rounding errors don't add up
abbrev pub frames_end : FrameLength → ℕ → ℕ
frames_end l n = n * l.ticks / l.rate

-- the first n frames, each from the end of those before it
unfoldable pub whole_frames : FrameLength → ℕ → ℕ → List Sample
whole_frames l size zero = []
whole_frames l size (suc n) = whole_frames l size n ++ silent_sample (frames_end l (suc n) - frames_end l n) size ∷ []

-- the number of frames that end within these ticks
abbrev pub frame_count : FrameLength → ℕ → ℕ
frame_count l ticks = ticks * l.rate / l.ticks

-- the last, shorter frame for the ticks that are left, or nothing if none are
abbrev pub last_silent : ℕ → ℕ → List Sample
last_silent ticks size = if ticks == 0 then [] else silent_sample ticks size ∷ []

-- frames of the codec's own length for the given number of ticks; the last one may be shorter
abbrev pub silent_samples : FrameLength → ℕ → ℕ → List Sample
silent_samples l size ticks = whole_frames l size (frame_count l ticks) ++ last_silent (ticks - frames_end l (frame_count l ticks)) size

-- the frame that is repeated: the silent one, or without one the recorded unit's first sample
abbrev pub repeated_frame : Option (List ℕ) → Sample → Fragment → List ℕ
repeated_frame None first source = take first.size source.payload
repeated_frame (Some silent) first source = silent

-- a frame lasts for a tick at least
abbrev pub lasts_a_tick : FrameLength → Bool
lasts_a_tick l = nat_lt 0 l.rate && nat_le l.rate l.ticks

-- the frames of a span are neither too many nor larger than the filler may be
abbrev pub are_few : FrameLength → ℕ → FillerSpan → Bool
are_few l size span = nat_lt (frame_count l span.ticks) most_samples && nat_le ((frame_count l span.ticks + 1) * size) span.most

-- frames of this length and this size can be repeated over the span
abbrev pub can_repeat : FrameLength → ℕ → FillerSpan → Bool
can_repeat l size span = is_span span && (lasts_a_tick l && are_few l size span)

-- a fragment of these frames, each with the same bytes
abbrev pub silence_of : Fragment → ℕ → List ℕ → List Sample → Fragment
silence_of source start frame samples = filler_of source start samples (concat (replicate (length samples) frame))

-- the fragment that repeats a frame for the span, if it can
abbrev pub silence_by : FrameLength → List ℕ → Fragment → FillerSpan → Option Fragment
silence_by l frame source span =
    if can_repeat l (length frame) span then Some (silence_of source span.start frame (silent_samples l (length frame) span.ticks)) else None

-- the frame that is repeated depends on the first of the recorded unit's samples
abbrev pub silence_from : FrameLength → Option (List ℕ) → Fragment → FillerSpan → List Sample → Option Fragment
silence_from l silent source span [] = None
silence_from l silent source span (first ∷ others) = silence_by l (repeated_frame silent first source) source span

-- the fragment that repeats a frame for the span, each time as long as the codec says
abbrev pub silence : FrameLength → Option (List ℕ) → FillerSpan → Fragment → Option Fragment
silence l silent span source = silence_from l silent source span source.samples

-- a filler of a frame as often as needed: of silence, or of the first sample of the recorded unit
unfoldable pub silent_unit : InitData → List ℕ → FrameLength → Option (List ℕ) → FillerSpan → Option (List ℕ)
silent_unit init unit l silent span = option_and_then written (option_and_then (silence l silent span) (fragment_of init unit))

-- the silent frame of AAC-LC with one channel, at any sampling rate (ISO/IEC 14496-3 4.4.2)
abbrev pub silent_mono : List ℕ
silent_mono = 0x00 ∷ 0xc8 ∷ 0x00 ∷ 0x80 ∷ 0x23 ∷ 0x80 ∷ []

-- the silent frame of AAC-LC with two channels, at any sampling rate
abbrev pub silent_stereo : List ℕ
silent_stereo = 0x21 ∷ 0x00 ∷ 0x49 ∷ 0x90 ∷ 0x02 ∷ 0x19 ∷ 0x00 ∷ 0x23 ∷ 0x80 ∷ []

-- a filler that holds a sample covers exactly its ticks, and starts with a sync sample if the recorded unit does
abbrev pub HeldUnitsFill : Type 0
HeldUnitsFill =
    (init : InitData) (unit made : List ℕ) (f : Facts) (span : FillerSpan) (source : Fragment) → IsUnit init unit f → fragment_of init unit ≡ Some source
    → All HasFields source.samples → held_unit init unit span ≡ Some made
    → IsTimeSpan init span.start span.ticks → IsUnit init made (span_facts init span.start span.ticks f.sync (length made))

-- a filler of repeated frames covers exactly its ticks, and starts with a sync sample
abbrev pub SilentUnitsFill : Type 0
SilentUnitsFill =
    (init : InitData) (unit made : List ℕ) (l : FrameLength) (silent : Option (List ℕ)) (f : Facts) (span : FillerSpan) (source : Fragment)
    → IsUnit init unit f → fragment_of init unit ≡ Some source
    → All HasFields source.samples → silent_unit init unit l silent span ≡ Some made
    → IsTimeSpan init span.start span.ticks → IsUnit init made (span_facts init span.start span.ticks true (length made))
