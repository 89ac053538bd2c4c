-- Fillers that are made of a unit's first sample are those that are made of the unit.
use Rattle.std.proofs.Common.{◌≡◌, ◌∙◌, ℕ, ◌+◌, inl, inr, Some, None, Option, Result, Ok, Err, List, [], ◌∷◌, refl, sym, ap}
use Rattle.std.specs.Prelude.{nat_lt, option_and_then, IfOk}
use Rattle.std.proofs.lemmas.Bool.{cases_Bool}
use Rattle.std.proofs.lemmas.Option.{none-some, same_Some}
use Rattle.hls_media_laws.specs.InitData.{InitData}
use Rattle.hls_record.specs.RecordingData.{RecordingData}
use Rattle.hls_mend_laws.specs.declared.sample.Sample.{Sample}
use Rattle.hls_mend_laws.specs.declared.filler.FillerSpan.{FillerSpan}
use Rattle.hls_mend_laws.specs.declared.filler.FrameLength.{FrameLength}
use Rattle.hls_mend_laws.specs.Fragments.{Fragment}
use Rattle.hls_mend_laws.specs.FragmentsRead.{fragment_of}
use Rattle.hls_mend_laws.specs.Fillers.{held, held_from, held_unit, silence, silence_from, silent_unit}
use Rattle.hls_mend_laws.specs.Retimed.{written}
use Rattle.hls_mend.specs.Silence.{Sound}
use Rattle.hls_mend.specs.FirstSamples.{first_bytes, first_from, first_in, first_of}
use Rattle.hls_mend.specs.declared.mended.ReadUnit.{ReadUnit}
use Rattle.hls_mend.specs.MendedUnits.{FillerSource, filler, filler_bytes, fillers_from, made_span, source_of, span_filler, span_filler_by, span_for}

-- ---- one fragment

-- a filler that holds the first of these samples needs no other
held-from-first : (f m : Fragment) (ss : List Sample) (span : FillerSpan) → Some m ≡ first_from f ss → held_from f span ss ≡ held span m
held-from-first f m [] span is = absurd (none-some m (sym is))
held-from-first f m (s ∷ others) span is =
    let same : m ≡ record f { front = []; start = 0; samples = s ∷ [] } = same_Some m _ is in
    rw same refl

-- a filler that repeats a frame needs no more than the first of these samples
silence-from-first : (f m : Fragment) (ss : List Sample) (l : FrameLength) (silent : Option (List ℕ)) (span : FillerSpan) → Some m ≡ first_from f ss
    → silence_from l silent f span ss ≡ silence l silent span m
silence-from-first f m [] l silent span is = absurd (none-some m (sym is))
silence-from-first f m (s ∷ others) l None span is =
    let same : m ≡ record f { front = []; start = 0; samples = s ∷ [] } = same_Some m _ is in
    rw same refl
silence-from-first f m (s ∷ others) l (Some frame) span is =
    let same : m ≡ record f { front = []; start = 0; samples = s ∷ [] } = same_Some m _ is in
    rw same refl

-- no filler holds a sample of a fragment without one
held-from-none : (f : Fragment) (ss : List Sample) (span : FillerSpan) → None ≡ first_from f ss → held_from f span ss ≡ None
held-from-none f [] span is = refl
held-from-none f (s ∷ others) span is = absurd (none-some _ is)

-- nor repeats one
silence-from-none : (f : Fragment) (ss : List Sample) (l : FrameLength) (silent : Option (List ℕ)) (span : FillerSpan) → None ≡ first_from f ss
    → silence_from l silent f span ss ≡ None
silence-from-none f [] l silent span is = refl
silence-from-none f (s ∷ others) l silent span is = absurd (none-some _ is)

-- ---- a fragment that may have been read

held-first : (o : Option Fragment) (m : Fragment) (span : FillerSpan) → Some m ≡ option_and_then first_of o → option_and_then (held span) o ≡ held span m
held-first None m span is = absurd (none-some m (sym is))
held-first (Some f) m span is = held-from-first f m f.samples span is

silence-first : (o : Option Fragment) (m : Fragment) (l : FrameLength) (silent : Option (List ℕ)) (span : FillerSpan) → Some m ≡ option_and_then first_of o
    → option_and_then (silence l silent span) o ≡ silence l silent span m
silence-first None m l silent span is = absurd (none-some m (sym is))
silence-first (Some f) m l silent span is = silence-from-first f m f.samples l silent span is

held-none : (o : Option Fragment) (span : FillerSpan) → None ≡ option_and_then first_of o → option_and_then (held span) o ≡ None
held-none None span is = refl
held-none (Some f) span is = held-from-none f f.samples span is

silence-none : (o : Option Fragment) (l : FrameLength) (silent : Option (List ℕ)) (span : FillerSpan) → None ≡ option_and_then first_of o
    → option_and_then (silence l silent span) o ≡ None
silence-none None l silent span is = refl
silence-none (Some f) l silent span is = silence-from-none f f.samples l silent span is

-- ---- a recorded unit

-- a filler that holds the first sample of a unit is made of that sample
pub holds_first : (init : InitData) (unit : List ℕ) (m : Fragment) (span : FillerSpan) → Some m ≡ first_in init unit
    → option_and_then written (held span m) ≡ held_unit init unit span
unfolding held_unit
holds_first init unit m span is = ap (option_and_then written) (sym (held-first (fragment_of init unit) m span is))

-- a filler that repeats a frame is made of the unit's first sample
pub repeats_first : (init : InitData) (unit : List ℕ) (m : Fragment) (l : FrameLength) (silent : Option (List ℕ)) (span : FillerSpan) → Some m ≡ first_in init unit
    → option_and_then written (silence l silent span m) ≡ silent_unit init unit l silent span
unfolding silent_unit
repeats_first init unit m l silent span is = ap (option_and_then written) (sym (silence-first (fragment_of init unit) m l silent span is))

-- no filler holds a sample of a unit that can't be read
pub holds_none : (init : InitData) (unit : List ℕ) (span : FillerSpan) → None ≡ first_in init unit → None ≡ held_unit init unit span
unfolding held_unit
holds_none init unit span is = ap (option_and_then written) (sym (held-none (fragment_of init unit) span is))

-- nor repeats a frame after it
pub repeats_none : (init : InitData) (unit : List ℕ) (l : FrameLength) (silent : Option (List ℕ)) (span : FillerSpan) → None ≡ first_in init unit
    → None ≡ silent_unit init unit l silent span
unfolding silent_unit
repeats_none init unit l silent span is = ap (option_and_then written) (sym (silence-none (fragment_of init unit) l silent span is))

-- the bytes of a filler that is made of the first sample of a unit are those of one that is made of the unit
bytes-by-first : (init : InitData) (unit : List ℕ) (m : Fragment) (sound : Option Sound) (span : FillerSpan) → Some m ≡ first_in init unit
    → first_bytes m sound span ≡ filler_bytes init unit sound span
bytes-by-first init unit m None span is = holds_first init unit m span is
bytes-by-first init unit m (Some sound) span is = repeats_first init unit m sound.length sound.silent span is

-- what is made of the first sample of a source is a filler of the source
pub filler_by_first : {E : Type 0} (init : InitData) (s : FillerSource) (m : Fragment) (start ticks end : ℕ) (span : FillerSpan) (made : Option (List ℕ)) (r : Result (Option ReadUnit) E)
    → Some m ≡ first_in init s.unit → span ≡ span_for init s.bandwidth start ticks → made ≡ first_bytes m s.sound span → end ≡ start + ticks
    → IfOk r (λ o. o ≡ made_span init start end made) → IfOk r (λ o. o ≡ filler init s start ticks)
filler_by_first init s m start ticks end span made (Ok o) read spans bytes last is =
    is ∙ ap (λ (e : ℕ). made_span init start e made) last
    ∙ ap (λ (b : Option (List ℕ)). made_span init start (start + ticks) b)
    (bytes ∙ ap (first_bytes m s.sound) spans ∙ bytes-by-first init s.unit m s.sound (span_for init s.bandwidth start ticks) read)
filler_by_first init s m start ticks end span made (Err e) read spans bytes last is = is

-- no filler is made of a unit that can't be read
bytes-none : (init : InitData) (unit : List ℕ) (sound : Option Sound) (span : FillerSpan) → None ≡ first_in init unit → filler_bytes init unit sound span ≡ None
bytes-none init unit None span is = sym (holds_none init unit span is)
bytes-none init unit (Some sound) span is = sym (repeats_none init unit sound.length sound.silent span is)

filler-none : (init : InitData) (s : FillerSource) (start ticks : ℕ) → None ≡ first_in init s.unit → filler init s start ticks ≡ None
filler-none init s start ticks is = rw (bytes-none init s.unit s.sound _ is) refl

-- a gap isn't filled if its source can't be read
pub unread_fills_nothing : (init : InitData) (s : FillerSource) (len start end : ℕ) → None ≡ first_in init s.unit → [] ≡ fillers_from 64 init s len start end
unfolding fillers_from
unread_fills_nothing init s len start end is = elim (cases_Bool (nat_lt start end)) [
  | inl e ↦ rw (e, filler-none init s start _ is) refl
  | inr e ↦ rw e refl
]

-- a span isn't filled if its source can't be read
pub unread_fills_no_span : (bandwidth : ℕ) (rec : RecordingData) (s : FillerSource) (start ticks : ℕ) → Some s ≡ source_of bandwidth rec.init rec → None ≡ first_in rec.init s.unit
    → None ≡ span_filler bandwidth rec start ticks
unfolding span_filler
unread_fills_no_span bandwidth rec s start ticks is none =
    sym (filler-none rec.init s start ticks none) ∙ ap (span_filler_by rec.init start ticks) is
