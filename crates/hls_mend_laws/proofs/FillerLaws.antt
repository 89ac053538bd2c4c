-- A filler covers exactly the ticks that it was made for.
use Rattle.std.proofs.Common.{◌≡◌, ◌∙◌, ℕ, zero, suc, ◌+◌, ◌-◌, ◌*◌, ◌/◌, ◌^◌, ◌<◌, ◌≤◌, ◌==◌, nat_le, ◌&&◌, Bool, true, Option, Some, option_and_then, List, [], ◌∷◌, length, take, replicate, refl, sym, ap, subst, inl, inr, arith, length-append}
use Rattle.std.specs.Prelude.{Ok, All}
use Rattle.std.specs.List.{concat}
use Rattle.std.proofs.Math.Nat.{div-mul-le_self, div-eq_of_lt, div-le_of_le-mul, le-div_iff_mul-le, mul-le-mul_right, mul_comm}
use Rattle.std.proofs.lemmas.Bool.{cases_Bool, and_parts, ltb-true, eqb-true}
use Rattle.std.proofs.lemmas.List.{length-take-le}
use Rattle.std.proofs.lemmas.List.Elements.{All-head, All-tail, All-cons, All-append}
use Rattle.std.proofs.lemmas.List.Sums.{sum_by-cons, sum_by-append}
use Rattle.hls_boxes.specs.Kinds.{unit_limit}
use Rattle.hls_media_laws.specs.InitData.{InitData}
use Rattle.hls_media_laws.specs.Runs.{is_sync}
use Rattle.hls_media_laws.specs.declared.facts.Facts.{Facts}
use Rattle.hls_media_laws.specs.IsInitOrUnit.{IsUnit}
use Rattle.hls_mend_laws.specs.declared.sample.Sample.{Sample}
use Rattle.hls_mend_laws.specs.declared.filler.FillerSpan.{FillerSpan}
use Rattle.hls_mend_laws.specs.declared.filler.FrameLength.{FrameLength}
use Rattle.hls_mend_laws.specs.Fragments.{Fragment, fragment_bytes, total_duration, total_size, starts_with_sync, HasFields, AreLooseBoxes, IsTimeSpan, IsWhole, span_facts, fragment_facts}
use Rattle.hls_mend_laws.specs.FragmentsRead.{fragment_of}
use Rattle.hls_mend_laws.specs.Retimed.{written}
use Rattle.hls_mend_laws.specs.Fillers.{filler_of, is_span, held_from, held, held_unit, silent_sample, frames_end, whole_frames, frame_count, last_silent, silent_samples, repeated_frame, lasts_a_tick, are_few, can_repeat, silence_of, silence_by, silence_from, silence, silent_unit, HeldUnitsFill, SilentUnitsFill}
use Rattle.hls_mend_laws.proofs.Options.{and-then, if-so}
use Rattle.hls_mend_laws.proofs.FragmentLaws.{fragments-are-units, fragment-len}
use Rattle.hls_mend_laws.proofs.SentLaws.{IsSent, is-sent}
use Rattle.hls_mend_laws.proofs.RetimedLaws.{IsWritten, is-written}

-- an empty front consists of loose boxes
no-boxes : AreLooseBoxes []
no-boxes = record { boxes = []; each = λ k d low. absurd (omega (arith, low)); joined = refl }

-- a filler with these samples is a unit with the facts of its span, if the samples last for `ticks` and fill the payload
fills : (init : InitData) (unit made : List ℕ) (f : Facts) (source : Fragment) (start ticks : ℕ) (ss : List Sample) (payload : List ℕ) (sync : Bool) → IsSent init unit f source
    → All HasFields ss → total_duration ss ≡ ticks → total_size ss ≡ length payload → starts_with_sync ss ≡ sync → IsWritten (filler_of source start ss payload) made → IsTimeSpan init start ticks
    → IsUnit init made (span_facts init start ticks sync (length made))
fills init unit made f source start ticks ss payload sync s fields lasts filled starts wrote fits =
    let made_of : Fragment = filler_of source start ss payload in
    let whole : IsWhole init made_of = record {
      loose = no-boxes;
      head = s.head;
      fields = fields;
      filled = filled;
      short = wrote.short;
      time = subst (IsTimeSpan init start) (sym lasts) fits;
    } in
    let unit_is : IsUnit init (fragment_bytes made_of) (fragment_facts init made_of) = fragments-are-units init made_of whole in
    let len : length (fragment_bytes made_of) ≡ length made = ap length (sym wrote.bytes) in
    let same : fragment_facts init made_of ≡ span_facts init start ticks sync (length made) = rw (lasts, starts, len) refl in
    subst (λ b. IsUnit init b (span_facts init start ticks sync (length made))) (sym wrote.bytes) (unit_is ∙ ap Ok same)

one-left : (n : ℕ) → n + 0 ≡ n
one-left n = omega arith

-- a filler that holds the first of the samples is a unit that covers the span, and its sync fact is the recorded unit's
held-by : (init : InitData) (unit made : List ℕ) (f : Facts) (span : FillerSpan) (source filler : Fragment) (ss : List Sample) → source.samples ≡ ss → IsSent init unit f source → All HasFields source.samples
    → held_from source span ss ≡ Some filler → IsWritten filler made → IsTimeSpan init span.start span.ticks → IsUnit init made (span_facts init span.start span.ticks f.sync (length made))
held-by init unit made f span source filler [] samples s fields is wrote fits = absurd (cc)
held-by init unit made f span source filler (first ∷ others) samples s fields is wrote fits =
    let kept : Sample = record first { duration = span.ticks } in
    let c = if-so (is_span span && nat_le first.size span.most) (filler_of source span.start (kept ∷ []) (take first.size source.payload)) filler is in
    let small : span.ticks < 2 ^ 32 = ltb-true _ _ (and_parts _ _ (and_parts _ _ c.0).0).1 in
    let both : All HasFields (first ∷ others) = subst (All HasFields) samples fields in
    let own : HasFields first = All-head HasFields first others both in
    let sizes : total_size source.samples ≡ first.size + total_size others = ap total_size samples ∙ sum_by-cons (λ (s : Sample). s.size) first others in
    let long : first.size ≤ length source.payload = omega (arith, sizes, s.filled) in
    let lasts : total_duration (kept ∷ []) ≡ span.ticks = sum_by-cons (λ (s : Sample). s.duration) kept [] ∙ one-left span.ticks in
    let filled : total_size (kept ∷ []) ≡ length (take first.size source.payload) = sum_by-cons (λ (s : Sample). s.size) kept [] ∙ one-left first.size ∙ sym (length-take-le first.size source.payload long) in
    let wrote' : IsWritten (filler_of source span.start (kept ∷ []) (take first.size source.payload)) made = subst (λ (x : Fragment). IsWritten x made) (sym c.1) wrote in
    fills init unit made f source span.start span.ticks (kept ∷ []) (take first.size source.payload) f.sync s
    (All-cons HasFields kept [] (record { duration = small; size = own.size; flags = own.flags; offset = own.offset }) (λ k d low. absurd (omega (arith, low))))
    lasts filled (s.sync_is first others samples) wrote' fits

-- a filler that holds a sample covers exactly the ticks that it was made for
pub held-units-fill : HeldUnitsFill
unfolding held_unit
held-units-fill init unit made f span source is read fields made_is fits =
    let w = and-then written (option_and_then (held span) (fragment_of init unit)) made made_is in
    let h = and-then (held span) (fragment_of init unit) w.x w.is in
    let one : h.x ≡ source = (let e : Some h.x ≡ Some source = sym h.is ∙ read in cc) in
    let from : held_from source span source.samples ≡ Some w.x = subst (λ (x : Fragment). held span x ≡ Some w.x) one h.then in
    held-by init unit made f span source w.x source.samples refl (is-sent init unit f source is read) fields from (is-written w.x made w.then) fits

-- ---- repeated frames

one-more : (n k : ℕ) → k + n * k ≡ suc n * k
one-more n k = omega arith

-- a quotient doesn't decrease with its dividend
div-rises : (a b k : ℕ) → 0 < k → a ≤ b → a / k ≤ b / k
div-rises a b k some low =
    (le-div_iff_mul-le {k = k} {x = a / k} {y = b} some).1 (let down : a / k * k ≤ a = div-mul-le_self a k in omega (arith, down, low))

-- fewer frames end no later
pub frames-below : (l : FrameLength) (n m : ℕ) → 0 < l.rate → n ≤ m → frames_end l n ≤ frames_end l m
frames-below l n m some low = div-rises (n * l.ticks) (m * l.ticks) l.rate some (mul-le-mul_right l.ticks low)

-- n frames last until the end of the n-th one
frames-last : (l : FrameLength) (size n : ℕ) → 0 < l.rate → total_duration (whole_frames l size n) ≡ frames_end l n
unfolding whole_frames
frames-last l size zero some = let none : 0 * l.ticks ≡ 0 = omega arith in sym (ap (λ k. k / l.rate) none ∙ div-eq_of_lt some)
frames-last l size (suc n) some =
    let before = frames-last l size n some in
    let one : Sample = silent_sample (frames_end l (suc n) - frames_end l n) size in
    let last : total_duration (one ∷ []) ≡ frames_end l (suc n) - frames_end l n = sum_by-cons (λ (s : Sample). s.duration) one [] ∙ one-left (frames_end l (suc n) - frames_end l n) in
    sum_by-append (λ (s : Sample). s.duration) (whole_frames l size n) (one ∷ [])
    ∙ omega (arith, before, last, frames-below l n (suc n) some (omega arith))

-- the whole frames of some ticks end within them
pub frames-within : (l : FrameLength) (ticks : ℕ) → frames_end l (frame_count l ticks) ≤ ticks
frames-within l ticks =
    div-le_of_le-mul l.rate (let down : ticks * l.rate / l.ticks * l.ticks ≤ ticks * l.rate = div-mul-le_self (ticks * l.rate) l.ticks in subst (λ (k : ℕ). ticks * l.rate / l.ticks * l.ticks ≤ k) (mul_comm ticks l.rate) down)

-- the last frame lasts for the ticks that are left
last-lasts : (ticks size : ℕ) → total_duration (last_silent ticks size) ≡ ticks
last-lasts ticks size =
    elim (cases_Bool (ticks == 0)) [
      | inl e ↦ rw e (sym (eqb-true ticks 0 e))
      | inr e ↦ rw e (sum_by-cons (λ (s : Sample). s.duration) (silent_sample ticks size) [] ∙ one-left ticks)
    ]

-- frames for the given ticks last exactly for these ticks
silence-lasts : (l : FrameLength) (size ticks : ℕ) → 0 < l.rate → total_duration (silent_samples l size ticks) ≡ ticks
silence-lasts l size ticks some =
    let n = frame_count l ticks in
    let within : frames_end l n ≤ ticks = frames-within l ticks in
    let front : total_duration (whole_frames l size n) ≡ frames_end l n = frames-last l size n some in
    let end : total_duration (last_silent (ticks - frames_end l n) size) ≡ ticks - frames_end l n = last-lasts (ticks - frames_end l n) size in
    sum_by-append (λ (s : Sample). s.duration) (whole_frames l size n) (last_silent (ticks - frames_end l n) size)
    ∙ omega (arith, front, end, within)

-- samples of `size` bytes each have their number times `size` bytes together
each-size : (size : ℕ) (ss : List Sample) → All (λ (s : Sample). s.size ≡ size) ss → total_size ss ≡ length ss * size
each-size size [] each = omega arith
each-size size (s ∷ ss) each =
    sum_by-cons (λ (s : Sample). s.size) s ss
    ∙ ap (λ k. k + total_size ss) (All-head (λ (s : Sample). s.size ≡ size) s ss each)
    ∙ ap (λ k. size + k) (each-size size ss (All-tail (λ (s : Sample). s.size ≡ size) s ss each))
    ∙ one-more (length ss) size

-- n copies of a frame are n times as long as one
repeated-len : (n : ℕ) (frame : List ℕ) → length (concat (replicate n frame)) ≡ n * length frame
repeated-len zero frame = omega arith
repeated-len (suc n) frame = length-append frame (concat (replicate n frame)) ∙ ap (λ k. length frame + k) (repeated-len n frame) ∙ one-more n (length frame)

-- what holds of a frame for any ticks holds of each whole frame
whole-each : (P : Sample → Type 0) (l : FrameLength) (size n : ℕ) → ((ticks : ℕ) → P (silent_sample ticks size)) → All P (whole_frames l size n)
unfolding whole_frames
whole-each P l size zero has = λ k d low. absurd (omega (arith, low))
whole-each P l size (suc n) has =
    All-append P (whole_frames l size n) (silent_sample (frames_end l (suc n) - frames_end l n) size ∷ []) (whole-each P l size n has)
    (All-cons P (silent_sample (frames_end l (suc n) - frames_end l n) size) [] (has _) (λ k d low. absurd (omega (arith, low))))

-- what holds of the frame for the ticks that are left holds of the last frame, if there is one
last-each : (P : Sample → Type 0) (ticks size : ℕ) → P (silent_sample ticks size) → All P (last_silent ticks size)
last-each P ticks size has =
    elim (cases_Bool (ticks == 0)) [
      | inl e ↦ rw e (λ k d low. absurd (omega (arith, low)))
      | inr e ↦ rw e (All-cons P (silent_sample ticks size) [] has (λ k d low. absurd (omega (arith, low))))
    ]

-- what holds of a frame for any ticks holds of each frame
silence-each : (P : Sample → Type 0) (l : FrameLength) (size ticks : ℕ) → ((ticks : ℕ) → P (silent_sample ticks size)) → All P (silent_samples l size ticks)
silence-each P l size ticks has =
    All-append P (whole_frames l size (frame_count l ticks)) (last_silent (ticks - frames_end l (frame_count l ticks)) size)
    (whole-each P l size (frame_count l ticks) has) (last-each P (ticks - frames_end l (frame_count l ticks)) size (has _))

-- the sizes of the frames add up to the length of their payload: one copy of the frame for each
silence-size : (l : FrameLength) (ticks : ℕ) (frame : List ℕ) → total_size (silent_samples l (length frame) ticks) ≡ length (concat (replicate (length (silent_samples l (length frame) ticks)) frame))
silence-size l ticks frame =
    each-size (length frame) (silent_samples l (length frame) ticks) (silence-each (λ (s : Sample). s.size ≡ length frame) l (length frame) ticks (λ t. refl))
    ∙ sym (repeated-len (length (silent_samples l (length frame) ticks)) frame)

-- each of some samples lasts no longer than all of them
each-lasts : (ss : List Sample) (most : ℕ) → total_duration ss < most → All (λ (s : Sample). s.duration < most) ss
each-lasts [] most low = λ k d over. absurd (omega (arith, over))
each-lasts (s ∷ ss) most low =
    let all : total_duration (s ∷ ss) ≡ s.duration + total_duration ss = sum_by-cons (λ (s : Sample). s.duration) s ss in
    All-cons (λ (s : Sample). s.duration < most) s ss (omega (arith, all, low)) (each-lasts ss most (omega (arith, all, low)))

-- the fields of frames fit if their durations and sizes fit 32 bits
silent-fields : (ss : List Sample) → All (λ (s : Sample). s.duration < 2 ^ 32) ss → All (λ (s : Sample). s.size < 2 ^ 32) ss → All (λ (s : Sample). s.flags ≡ 0x02000000) ss
    → All (λ (s : Sample). s.offset ≡ 0) ss → All HasFields ss
silent-fields [] low small flags offsets = λ k d over. absurd (omega (arith, over))
silent-fields (s ∷ ss) low small flags offsets =
    let flag = All-head (λ (s : Sample). s.flags ≡ 0x02000000) s ss flags in
    let offset = All-head (λ (s : Sample). s.offset ≡ 0) s ss offsets in
    All-cons HasFields s ss
    (record {
      duration = All-head (λ (s : Sample). s.duration < 2 ^ 32) s ss low;
      size = All-head (λ (s : Sample). s.size < 2 ^ 32) s ss small;
      flags = omega (arith, flag);
      offset = omega (arith, offset);
    })
    (silent-fields ss (All-tail (λ (s : Sample). s.duration < 2 ^ 32) s ss low) (All-tail (λ (s : Sample). s.size < 2 ^ 32) s ss small)
    (All-tail (λ (s : Sample). s.flags ≡ 0x02000000) s ss flags) (All-tail (λ (s : Sample). s.offset ≡ 0) s ss offsets))

-- frames that last start with a sync sample
silence-sync : (ss : List Sample) → All (λ (s : Sample). is_sync (Some s.flags) ≡ true) ss → 0 < total_duration ss → starts_with_sync ss ≡ true
silence-sync [] each some = absurd (omega (arith, some))
silence-sync (s ∷ ss) each some = All-head (λ (s : Sample). is_sync (Some s.flags) ≡ true) s ss each

-- samples that last for some time are at least one
frames-some : (ss : List Sample) → 0 < total_duration ss → 0 < length ss
frames-some [] some = absurd (omega (arith, some))
frames-some (s ∷ ss) some = omega arith

-- a size is at most n times itself, if n is above 0
size-less : (n size : ℕ) → 0 < n → size ≤ n * size
size-less zero size some = absurd (omega (arith, some))
size-less (suc n) size some = omega arith

-- a filler that repeats a frame is a unit that covers the span and starts with a sync sample
silent-by : (init : InitData) (unit made frame : List ℕ) (l : FrameLength) (f : Facts) (span : FillerSpan) (source filler : Fragment) → IsSent init unit f source
    → silence_by l frame source span ≡ Some filler → IsWritten filler made → IsTimeSpan init span.start span.ticks → IsUnit init made (span_facts init span.start span.ticks true (length made))
silent-by init unit made frame l f span source filler s is wrote fits =
    let frames : List Sample = silent_samples l (length frame) span.ticks in
    let payload : List ℕ = concat (replicate (length frames) frame) in
    let c = if-so (can_repeat l (length frame) span) (silence_of source span.start frame frames) filler is in
    let spanned = and_parts (is_span span) (lasts_a_tick l && are_few l (length frame) span) c.0 in
    let some : 0 < span.ticks = ltb-true _ _ (and_parts _ _ spanned.0).0 in
    let short : span.ticks < 2 ^ 32 = ltb-true _ _ (and_parts _ _ spanned.0).1 in
    let lasting = and_parts (lasts_a_tick l) (are_few l (length frame) span) spanned.1 in
    let rate : 0 < l.rate = ltb-true _ _ (and_parts _ _ lasting.0).0 in
    let wrote' : IsWritten (silence_of source span.start frame frames) made = subst (λ (x : Fragment). IsWritten x made) (sym c.1) wrote in
    let lasts : total_duration frames ≡ span.ticks = silence-lasts l (length frame) span.ticks rate in
    let filled : total_size frames ≡ length payload = silence-size l span.ticks frame in
    let len : length frames * length frame ≡ length payload = sym (repeated-len (length frames) frame) in
    let few : length payload ≤ unit_limit = omega (arith, wrote'.short, fragment-len (silence_of source span.start frame frames)) in
    let count : 0 < length frames = frames-some frames (omega (arith, lasts, some)) in
    let small : length frame < 2 ^ 32 = omega (arith, few, size-less (length frames) (length frame) count, len) in
    let fields : All HasFields frames =
    silent-fields frames (each-lasts frames (2 ^ 32) (omega (arith, lasts, short))) (silence-each (λ (s : Sample). s.size < 2 ^ 32) l (length frame) span.ticks (λ t. small))
    (silence-each (λ (s : Sample). s.flags ≡ 0x02000000) l (length frame) span.ticks (λ t. refl)) (silence-each (λ (s : Sample). s.offset ≡ 0) l (length frame) span.ticks (λ t. refl)) in
    fills init unit made f source span.start span.ticks frames payload true s fields lasts filled
    (silence-sync frames (silence-each (λ (s : Sample). is_sync (Some s.flags) ≡ true) l (length frame) span.ticks (λ t. refl)) (omega (arith, lasts, some)))
    wrote' fits

-- the same, by the first of the recorded unit's samples
silent-from : (init : InitData) (unit made : List ℕ) (l : FrameLength) (silent : Option (List ℕ)) (f : Facts) (span : FillerSpan) (source filler : Fragment) (ss : List Sample) → IsSent init unit f source
    → silence_from l silent source span ss ≡ Some filler → IsWritten filler made → IsTimeSpan init span.start span.ticks → IsUnit init made (span_facts init span.start span.ticks true (length made))
silent-from init unit made l silent f span source filler [] s is wrote fits = absurd (cc)
silent-from init unit made l silent f span source filler (first ∷ others) s is wrote fits =
    silent-by init unit made (repeated_frame silent first source) l f span source filler s is wrote fits

-- a filler of repeated frames covers exactly the ticks that it was made for
pub silent-units-fill : SilentUnitsFill
unfolding silent_unit
silent-units-fill init unit made l silent f span source is read fields made_is fits =
    let w = and-then written (option_and_then (silence l silent span) (fragment_of init unit)) made made_is in
    let h = and-then (silence l silent span) (fragment_of init unit) w.x w.is in
    let one : h.x ≡ source = (let e : Some h.x ≡ Some source = sym h.is ∙ read in cc) in
    let from : silence_from l silent source span source.samples ≡ Some w.x = subst (λ (x : Fragment). silence l silent span x ≡ Some w.x) one h.then in
    silent-from init unit made l silent f span source w.x source.samples (is-sent init unit f source is read) from (is-written w.x made w.then) fits
