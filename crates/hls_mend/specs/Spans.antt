-- What a unit's treatment depends on, beside its facts.
use Rattle.std.specs.Prelude.{ℕ, Option, Some, None, option_and_then, List, [], ◌∷◌}
use Rattle.hls_media_laws.specs.InitData.{InitData}
use Rattle.hls_mend_laws.specs.declared.sample.Sample.{Sample}
use Rattle.hls_mend_laws.specs.Fragments.{Fragment}
use Rattle.hls_mend_laws.specs.FragmentsRead.{fragment_of}

-- the duration of the first of these samples, in ticks, if there is one
abbrev pub first_duration_of : List Sample → Option ℕ
first_duration_of [] = None
first_duration_of (s ∷ ss) = Some s.duration

-- the duration of a fragment's first sample, in ticks, if it has one
abbrev pub first_of : Fragment → Option ℕ
first_of f = first_duration_of f.samples

-- the duration of a unit's first sample, if mending can write the unit again
unfoldable pub first_duration : InitData → List ℕ → Option ℕ
first_duration init unit = option_and_then first_of (fragment_of init unit)
