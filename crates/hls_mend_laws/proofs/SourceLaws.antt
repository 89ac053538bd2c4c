-- Each sample of a unit that mending makes is one of the unit that it was made of, or a frame of silence.
use Rattle.std.proofs.Common.{◌≡◌, ◌∙◌, ℕ, zero, suc, ◌+◌, ◌-◌, ◌*◌, ◌^◌, ◌≤◌, ◌==◌, nat_le, ◌&&◌, Option, Some, None, option_and_then, List, [], ◌∷◌, ◌++◌, length, take, drop, refl, sym, ap, subst, inl, inr, arith, length-append}
use Rattle.std.proofs.Math.Nat.{mul-le-mul_right}
use Rattle.std.proofs.lemmas.Bool.{cases_Bool, and_parts, leb-true}
use Rattle.std.proofs.lemmas.List.{drop-drop}
use Rattle.std.proofs.lemmas.List.Sums.{sum_by-cons}
use Rattle.hls_media_laws.specs.InitData.{InitData}
use Rattle.hls_mend_laws.specs.declared.sample.Sample.{Sample}
use Rattle.hls_mend_laws.specs.declared.filler.FillerSpan.{FillerSpan}
use Rattle.hls_mend_laws.specs.declared.filler.FrameLength.{FrameLength}
use Rattle.hls_mend_laws.specs.Fragments.{Fragment, fragment_bytes, total_duration, total_size}
use Rattle.hls_mend_laws.specs.FragmentsRead.{fragment_of}
use Rattle.hls_mend_laws.specs.Retimed.{written}
use Rattle.hls_mend_laws.specs.Cuts.{rest_of, is_cut, cut_from, cut, cut_unit}
use Rattle.hls_mend_laws.specs.Fillers.{filler_of, is_span, silent_sample, frames_end, whole_frames, frame_count, last_silent, silent_samples, repeated_frame, lasts_a_tick, are_few, can_repeat, silence_of, held_from, held, held_unit, silence_from, silence, silent_unit}
use Rattle.hls_mend_laws.specs.Sources.{IsRest, CutKeepsRest, IsHeld, HeldRepeatSample, IsSilence, SilenceRepeatsFrame}
use Rattle.hls_mend_laws.proofs.Options.{and-then, if-so}
use Rattle.hls_mend_laws.proofs.RetimedLaws.{is-written}

-- ---- the rest of a unit

-- a fragment has the last of these samples with their bytes, and starts when they start
record IsLeft (f : Fragment) (start : ℕ) (ss : List Sample) (payload : List ℕ) (made : Fragment) : Type 0 where
  gone : List Sample
  rest : List Sample
  samples : ss ≡ gone ++ rest
  is : rest_of f (start + total_duration gone) rest (drop (total_size gone) payload) ≡ made

-- if no sample is cut, all samples with all their bytes are left
none-gone : (f : Fragment) (start : ℕ) (ss : List Sample) (payload : List ℕ) → IsLeft f start ss payload (rest_of f start ss payload)
none-gone f start ss payload =
    let same : start + 0 ≡ start = omega arith in
    record { gone = []; rest = ss; samples = refl; is = ap (λ (k : ℕ). rest_of f k ss payload) same }

-- what is left of the samples after the first one is left of all of them
one-gone : (f : Fragment) (start : ℕ) (s : Sample) (ss : List Sample) (payload : List ℕ) (made : Fragment) → IsLeft f (start + s.duration) ss (drop s.size payload) made
    → IsLeft f start (s ∷ ss) payload made
one-gone f start s ss payload made left =
    let durations : start + total_duration (s ∷ left.gone) ≡ (start + s.duration) + total_duration left.gone =
    (let sum = sum_by-cons (λ (x : Sample). x.duration) s left.gone in omega (arith, sum)) in
    let sizes : drop (total_size (s ∷ left.gone)) payload ≡ drop (total_size left.gone) (drop s.size payload) =
    ap (λ (k : ℕ). drop k payload) (sum_by-cons (λ (x : Sample). x.size) s left.gone) ∙ sym (drop-drop (total_size left.gone) s.size payload) in
    record {
      gone = s ∷ left.gone;
      rest = left.rest;
      samples = ap (λ (xs : List Sample). s ∷ xs) left.samples;
      is = ap (λ (k : ℕ). rest_of f k left.rest (drop (total_size (s ∷ left.gone)) payload)) durations
          ∙ ap (λ (bytes : List ℕ). rest_of f ((start + s.duration) + total_duration left.gone) left.rest bytes) sizes
          ∙ left.is;
    }

-- a cut leaves the last of the samples with their bytes
is-left : (snap end : ℕ) (f : Fragment) (start : ℕ) (ss : List Sample) (payload : List ℕ) (made : Fragment) → cut_from snap end f start ss payload ≡ Some made → IsLeft f start ss payload made
is-left snap end f start [] payload made is = absurd (cc)
is-left snap end f start (s ∷ ss) payload made is =
    elim (cases_Bool (is_cut snap end start s)) [
      | inr stays ↦
          let here : Some (rest_of f start (s ∷ ss) payload) ≡ Some made = rw stays at is in
          let same : rest_of f start (s ∷ ss) payload ≡ made = cc in
          subst (IsLeft f start (s ∷ ss) payload) same (none-gone f start (s ∷ ss) payload)
      | inl goes ↦ elim (cases_Bool (nat_le (2 ^ 64) (start + s.duration))) [
        | inl late ↦ (let none : None ≡ Some made = rw (goes, late) at is in absurd (cc))
        | inr early ↦
            let more : cut_from snap end f (start + s.duration) ss (drop s.size payload) ≡ Some made = rw (goes, early) at is in
            one-gone f start s ss payload made (is-left snap end f (start + s.duration) ss (drop s.size payload) made more)
      ]
    ]

-- the written bytes of what a cut leaves of a unit's fragment are the rest of the unit
rest-by : (init : InitData) (unit made : List ℕ) (sent again : Fragment) → fragment_of init unit ≡ Some sent → IsLeft sent sent.start sent.samples sent.payload again → made ≡ fragment_bytes again → IsRest init unit made
rest-by init unit made sent again read left wrote = record {
  sent = sent;
  cut = left.gone;
  rest = left.rest;
  read = read;
  samples = left.samples;
  bytes = wrote ∙ ap fragment_bytes (sym left.is);
}

-- a unit that is cut keeps its last samples with their bytes
pub cut-keeps-rest : CutKeepsRest
unfolding cut_unit
cut-keeps-rest init unit made snap end is =
    let w = and-then written (option_and_then (cut snap end) (fragment_of init unit)) made is in
    let c = and-then (cut snap end) (fragment_of init unit) w.x w.is in
    rest-by init unit made c.x w.x c.is (is-left snap end c.x c.x.start c.x.samples c.x.payload w.x c.then) (is-written w.x made w.then).bytes

-- ---- fillers

-- the written bytes of a filler that holds the first of the samples are that sample for the ticks of the span
held-by : (init : InitData) (unit made : List ℕ) (span : FillerSpan) (source filler : Fragment) (ss : List Sample) → fragment_of init unit ≡ Some source → source.samples ≡ ss
    → held_from source span ss ≡ Some filler → made ≡ fragment_bytes filler → IsHeld init unit made span
held-by init unit made span source filler [] read samples is wrote = absurd (cc)
held-by init unit made span source filler (first ∷ others) read samples is wrote =
    let c = if-so (is_span span && nat_le first.size span.most) (filler_of source span.start (record first { duration = span.ticks } ∷ []) (take first.size source.payload)) filler is in
    record { source = source; first = first; others = others; read = read; samples = samples; bytes = wrote ∙ ap fragment_bytes (sym c.1); small = leb-true _ _ (and_parts _ _ c.0).1 }

-- a filler that holds a sample has the recorded unit's first sample, with its bytes
pub held-repeat-sample : HeldRepeatSample
unfolding held_unit
held-repeat-sample init unit made span is =
    let w = and-then written (option_and_then (held span) (fragment_of init unit)) made is in
    let h = and-then (held span) (fragment_of init unit) w.x w.is in
    held-by init unit made span h.x w.x h.x.samples h.is refl h.then (is-written w.x made w.then).bytes

-- n whole frames are n
whole-count : (l : FrameLength) (size n : ℕ) → length (whole_frames l size n) ≡ n
unfolding whole_frames
whole-count l size zero = refl
whole-count l size (suc n) =
    let before = whole-count l size n in
    length-append (whole_frames l size n) (silent_sample (frames_end l (suc n) - frames_end l n) size ∷ []) ∙ omega (arith, before)

-- there is at most one last frame
last-count : (ticks size : ℕ) → length (last_silent ticks size) ≤ 1
last-count ticks size = elim (cases_Bool (ticks == 0)) [
  | inl e ↦ rw e (omega arith)
  | inr e ↦ rw e (omega arith)
]

-- there is at most one frame more than whole ones
frames-count : (l : FrameLength) (size ticks : ℕ) → length (silent_samples l size ticks) ≤ frame_count l ticks + 1
frames-count l size ticks =
    omega (
      arith,
      length-append (whole_frames l size (frame_count l ticks)) (last_silent (ticks - frames_end l (frame_count l ticks)) size),
      whole-count l size (frame_count l ticks),
      last-count (ticks - frames_end l (frame_count l ticks)) size,
    )

-- the written bytes of a filler of repeated frames have the same frame in each sample
silence-by : (init : InitData) (unit made : List ℕ) (l : FrameLength) (silent : Option (List ℕ)) (span : FillerSpan) (source filler : Fragment) (ss : List Sample) → fragment_of init unit ≡ Some source
    → source.samples ≡ ss → silence_from l silent source span ss ≡ Some filler → made ≡ fragment_bytes filler → IsSilence init unit made l silent span
silence-by init unit made l silent span source filler [] read samples is wrote = absurd (cc)
silence-by init unit made l silent span source filler (first ∷ others) read samples is wrote =
    let frame = repeated_frame silent first source in
    let frames = silent_samples l (length frame) span.ticks in
    let c = if-so (can_repeat l (length frame) span) (silence_of source span.start frame frames) filler is in
    let spanned = and_parts (is_span span) (lasts_a_tick l && are_few l (length frame) span) c.0 in
    let lasting = and_parts (lasts_a_tick l) (are_few l (length frame) span) spanned.1 in
    let most : (frame_count l span.ticks + 1) * length frame ≤ span.most = leb-true _ _ (and_parts _ _ lasting.1).1 in
    let less : length frames * length frame ≤ (frame_count l span.ticks + 1) * length frame = mul-le-mul_right (length frame) (frames-count l (length frame) span.ticks) in
    record {
      source = source;
      first = first;
      others = others;
      read = read;
      samples = samples;
      bytes = wrote ∙ ap fragment_bytes (sym c.1);
      small = omega (arith, less, most);
    }

-- a filler of repeated frames has the same frame in each sample
pub silence-repeats-frame : SilenceRepeatsFrame
unfolding silent_unit
silence-repeats-frame init unit made l silent span is =
    let w = and-then written (option_and_then (silence l silent span) (fragment_of init unit)) made is in
    let h = and-then (silence l silent span) (fragment_of init unit) w.x w.is in
    silence-by init unit made l silent span h.x w.x h.x.samples h.is refl h.then (is-written w.x made w.then).bytes
