-- Where the samples of a unit that mending makes come from: each is a sample of the unit that it was made of, or a silent frame. A unit
-- with another start is `IsRetimed`.
use Rattle.std.specs.Prelude.{◌≡◌, ℕ, ◌+◌, ◌*◌, ◌≤◌, Option, Some, List, [], ◌∷◌, ◌++◌, length, take, drop}
use Rattle.hls_media_laws.specs.InitData.{InitData}
use Rattle.hls_mend_laws.specs.declared.sample.Sample.{Sample}
use Rattle.hls_mend_laws.specs.declared.filler.FillerSpan.{FillerSpan}
use Rattle.hls_mend_laws.specs.declared.filler.FrameLength.{FrameLength}
use Rattle.hls_mend_laws.specs.Fragments.{Fragment, fragment_bytes, total_duration, total_size}
use Rattle.hls_mend_laws.specs.FragmentsRead.{fragment_of}
use Rattle.hls_mend_laws.specs.Cuts.{rest_of, cut_unit}
use Rattle.hls_mend_laws.specs.Fillers.{filler_of, repeated_frame, silence_of, silent_samples, held_unit, silent_unit}

-- the last samples of the unit with their bytes: it starts when they start, and ends as the unit does
pub record IsRest (init : InitData) (unit made : List ℕ) : Type 0 where
  pub sent : Fragment
  pub cut : List Sample
  pub rest : List Sample
  pub read : fragment_of init unit ≡ Some sent
  pub samples : sent.samples ≡ cut ++ rest
  pub bytes : made ≡ fragment_bytes (rest_of sent (sent.start + total_duration cut) rest (drop (total_size cut) sent.payload))

-- a unit that is cut has the last samples of the unit that was sent, with their bytes
abbrev pub CutKeepsRest : Type 0
CutKeepsRest = (init : InitData) (unit made : List ℕ) (snap end : ℕ) → cut_unit init unit snap end ≡ Some made → IsRest init unit made

-- the first sample of the unit with its bytes, for the ticks of the span
pub record IsHeld (init : InitData) (unit made : List ℕ) (span : FillerSpan) : Type 0 where
  pub source : Fragment
  pub first : Sample
  pub others : List Sample
  pub read : fragment_of init unit ≡ Some source
  pub samples : source.samples ≡ first ∷ others
  pub bytes : made ≡ fragment_bytes (filler_of source span.start (record first { duration = span.ticks } ∷ []) (take first.size source.payload))
  pub small : first.size ≤ span.most

-- a filler that holds a sample has the recorded unit's first sample, with its bytes, for the ticks of the span; it isn't larger than it may be
abbrev pub HeldRepeatSample : Type 0
HeldRepeatSample = (init : InitData) (unit made : List ℕ) (span : FillerSpan) → held_unit init unit span ≡ Some made → IsHeld init unit made span

-- a filler of repeated frames: each of its samples is the silent frame, or without one the first sample of the unit, as long as the codec
-- says, and the last one perhaps shorter. Together they aren't larger than they may be
pub record IsSilence (init : InitData) (unit made : List ℕ) (l : FrameLength) (silent : Option (List ℕ)) (span : FillerSpan) : Type 0 where
  pub source : Fragment
  pub first : Sample
  pub others : List Sample
  pub read : fragment_of init unit ≡ Some source
  pub samples : source.samples ≡ first ∷ others
  pub bytes : made ≡ fragment_bytes (silence_of source span.start (repeated_frame silent first source) (silent_samples l (length (repeated_frame silent first source)) span.ticks))
  pub small : length (silent_samples l (length (repeated_frame silent first source)) span.ticks) * length (repeated_frame silent first source) ≤ span.most

-- a filler of repeated frames has the same frame in each sample, and isn't larger than it may be
abbrev pub SilenceRepeatsFrame : Type 0
SilenceRepeatsFrame =
    (init : InitData) (unit made : List ℕ) (l : FrameLength) (silent : Option (List ℕ)) (span : FillerSpan) → silent_unit init unit l silent span ≡ Some made
    → IsSilence init unit made l silent span
