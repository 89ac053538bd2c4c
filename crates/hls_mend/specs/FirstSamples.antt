-- What fillers are made of: the first sample of a recorded unit. It is all that a filler depends on.
use Rattle.std.specs.Prelude.{ℕ, Option, Some, None, option_and_then, List, [], ◌∷◌}
use Rattle.hls_media_laws.specs.InitData.{InitData}
use Rattle.hls_mend_laws.specs.declared.sample.Sample.{Sample}
use Rattle.hls_mend_laws.specs.declared.filler.FillerSpan.{FillerSpan}
use Rattle.hls_mend_laws.specs.Fragments.{Fragment}
use Rattle.hls_mend_laws.specs.FragmentsRead.{fragment_of}
use Rattle.hls_mend_laws.specs.Fillers.{held, silence}
use Rattle.hls_mend_laws.specs.Retimed.{written}
use Rattle.hls_mend.specs.Silence.{Sound}
use Rattle.hls_mend.specs.declared.fillers.FirstSample as firsts

-- a fragment with the first of these samples alone, if there is one; its time and the boxes before it don't matter
abbrev pub first_from : Fragment → List Sample → Option Fragment
first_from f [] = None
first_from f (sample ∷ others) = Some (record f { front = []; start = 0; samples = sample ∷ [] })

-- a fragment with its first sample alone
abbrev pub first_of : Fragment → Option Fragment
first_of f = first_from f f.samples

-- a recorded unit with its first sample alone, if it can be read
abbrev pub first_in : InitData → List ℕ → Option Fragment
first_in init unit = option_and_then first_of (fragment_of init unit)

-- a first sample as contracts see it
abbrev pub first_view : firsts.FirstSample → Fragment
first_view f = record { front = []; number = f.number; head = f.head.now; start = 0; samples = f.sample ∷ []; payload = f.payload.now }

-- the bytes of a filler that is made of a first sample
abbrev pub first_bytes : Fragment → Option Sound → FillerSpan → Option (List ℕ)
first_bytes f None span = option_and_then written (held span f)
first_bytes f (Some sound) span = option_and_then written (silence sound.length sound.silent span f)
