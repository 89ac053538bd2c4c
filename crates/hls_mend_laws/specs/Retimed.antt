-- A unit that is written again to start at another tick, with the same samples, the same bytes and the same end: the first sample's
-- duration absorbs the difference.
use Rattle.std.specs.Prelude.{◌≡◌, ◌≢◌, ℕ, ◌+◌, ◌-◌, ◌^◌, nat_lt, nat_le, ◌&&◌, if◌then◌else◌, Option, Some, None, option_map, option_and_then, List, [], ◌∷◌, length, All}
use Rattle.hls_boxes.specs.Kinds.{unit_limit}
use Rattle.hls_time.specs.Times.{floor_us}
use Rattle.hls_media_laws.specs.InitData.{InitData}
use Rattle.hls_media_laws.specs.declared.facts.Facts.{Facts}
use Rattle.hls_media_laws.specs.IsInitOrUnit.{IsUnit}
use Rattle.hls_mend_laws.specs.declared.sample.Sample.{Sample}
use Rattle.hls_mend_laws.specs.Fragments.{Fragment, HasFields, fragment_bytes}
use Rattle.hls_mend_laws.specs.FragmentsRead.{fragment_of}

-- the unit that a fragment is written as, if it is within the limit of a unit
unfoldable pub written : Fragment → Option (List ℕ)
written f = if nat_le (length (fragment_bytes f)) unit_limit then Some (fragment_bytes f) else None

-- the fragment with a new start and a new duration of its first sample
abbrev pub moved : Fragment → ℕ → Sample → List Sample → ℕ → Fragment
moved f start first others duration = record f { start = start; samples = record first { duration = duration } ∷ others }

-- the duration of a first sample that starts at `start` and ends as before; it must be above 0 and fit its field
abbrev pub new_duration : ℕ → ℕ → ℕ → Option ℕ
new_duration sent first start =
    if nat_lt start (sent + first) && nat_lt (sent + first - start) (2 ^ 32) then Some (sent + first - start) else None

-- the fragment with these samples, moved to `start`; None if there is no sample or the first can't absorb the difference
abbrev pub retimed_from : Fragment → ℕ → List Sample → Option Fragment
retimed_from f start [] = None
retimed_from f start (first ∷ others) = option_map (moved f start first others) (new_duration f.start first.duration start)

-- the fragment that starts at `start` and ends as before, if its first sample can absorb the difference
abbrev pub retimed : ℕ → Fragment → Option Fragment
retimed start f = retimed_from f start f.samples

-- the unit that starts at `start`, or None if mending can't write it
unfoldable pub retimed_unit : InitData → List ℕ → ℕ → Option (List ℕ)
retimed_unit init unit start = option_and_then written (option_and_then (retimed start) (fragment_of init unit))

-- facts that differ only in the start, the duration and the length: the end is the same
pub record AreMoved (sent made : Facts) (start bytes : ℕ) : Type 0 where
  pub starts : made.start ≡ start
  pub same_end : made.start + made.duration ≡ sent.start + sent.duration
  pub scale : made.scale ≡ sent.scale
  pub start_us : made.start_us ≡ floor_us start sent.scale
  pub end_us : made.end_us ≡ sent.end_us
  pub sync : made.sync ≡ sent.sync
  pub len : made.len ≡ bytes

-- a unit that is written again is a unit with such facts; the fields of samples that are read of bytes always fit
abbrev pub RetimedKeepFacts : Type 0
RetimedKeepFacts =
    (init : InitData) (unit made : List ℕ) (f : Facts) (start : ℕ) (sent : Fragment) → IsUnit init unit f → fragment_of init unit ≡ Some sent
    → All HasFields sent.samples → retimed_unit init unit start ≡ Some made → floor_us start f.scale ≢ f.end_us
    → (g : Facts) × (IsUnit init made g) × AreMoved f g start (length made)

-- what is written is the fragment of the unit with another start and another duration of its first sample, which ends as it did: the same
-- samples and the same bytes
pub record IsRetimed (init : InitData) (unit made : List ℕ) (start : ℕ) : Type 0 where
  pub sent : Fragment
  pub first : Sample
  pub others : List Sample
  pub duration : ℕ
  pub read : fragment_of init unit ≡ Some sent
  pub samples : sent.samples ≡ first ∷ others
  pub same_end : start + duration ≡ sent.start + first.duration
  pub bytes : made ≡ fragment_bytes (moved sent start first others duration)

-- a unit that is written again has the samples and the bytes that were sent, but for the duration of the first sample
abbrev pub RetimedKeepSamples : Type 0
RetimedKeepSamples = (init : InitData) (unit made : List ℕ) (start : ℕ) → retimed_unit init unit start ≡ Some made → IsRetimed init unit made start
