-- An audio unit without its leading samples.
use Rattle.std.specs.Prelude.{Bool, ℕ, ◌+◌, ◌^◌, nat_lt, nat_le, ◌||◌, if◌then◌else◌, Option, Some, None, option_and_then, List, [], ◌∷◌, drop}
use Rattle.hls_media_laws.specs.InitData.{InitData}
use Rattle.hls_mend_laws.specs.declared.sample.Sample.{Sample}
use Rattle.hls_mend_laws.specs.Fragments.{Fragment}
use Rattle.hls_mend_laws.specs.FragmentsRead.{fragment_of}
use Rattle.hls_mend_laws.specs.Retimed.{written}

-- the fragment with these samples from `start`, and these bytes
abbrev pub rest_of : Fragment → ℕ → List Sample → List ℕ → Fragment
rest_of f start samples payload = record f { start = start; samples = samples; payload = payload }

-- a sample is cut if it starts more than `snap` before the end, or ends at or before it
abbrev pub is_cut : ℕ → ℕ → ℕ → Sample → Bool
is_cut snap end start s = nat_lt (start + snap) end || nat_le (start + s.duration) end

-- the rest from the first sample that isn't cut, or None if all are, or if the rest starts after the range of times
abbrev pub cut_from : ℕ → ℕ → Fragment → ℕ → List Sample → List ℕ → Option Fragment
cut_from snap end f start [] payload = None
cut_from snap end f start (s ∷ ss) payload =
    if is_cut snap end start s
    then (if nat_le (2 ^ 64) (start + s.duration) then None else cut_from snap end f (start + s.duration) ss (drop s.size payload))
    else Some (rest_of f start (s ∷ ss) payload)

-- the fragment without the leading samples that are cut where the rendition ends at `end`, if any sample is left
abbrev pub cut : ℕ → ℕ → Fragment → Option Fragment
cut snap end f = cut_from snap end f f.start f.samples f.payload

-- the unit without the leading samples that are cut where the rendition ends at `end`, or None if none is left or mending can't write it
unfoldable pub cut_unit : InitData → List ℕ → ℕ → ℕ → Option (List ℕ)
cut_unit init unit snap end = option_and_then written (option_and_then (cut snap end) (fragment_of init unit))
