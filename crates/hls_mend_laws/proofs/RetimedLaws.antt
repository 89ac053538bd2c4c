-- A unit that is written again keeps its facts, but for its start, its duration and its length, and its samples.
use Rattle.std.proofs.Common.{◌≡◌, ◌∙◌, ℕ, ◌+◌, ◌-◌, ◌^◌, ◌<◌, ◌≤◌, nat_lt, nat_le, ◌&&◌, Some, option_and_then, List, [], ◌∷◌, length, refl, sym, ap, subst, arith}
use Rattle.std.specs.Prelude.{◌≢◌, All}
use Rattle.std.proofs.lemmas.Bool.{and_parts, ltb-true, leb-true}
use Rattle.std.proofs.lemmas.List.Elements.{All-head, All-tail, All-cons}
use Rattle.std.proofs.lemmas.List.Sums.{sum_by-cons}
use Rattle.hls_boxes.specs.Kinds.{unit_limit}
use Rattle.hls_time.specs.Times.{floor_us}
use Rattle.hls_media_laws.specs.InitData.{InitData, timing_track}
use Rattle.hls_media_laws.specs.declared.facts.Facts.{Facts}
use Rattle.hls_media_laws.specs.IsInitOrUnit.{IsUnit}
use Rattle.hls_mend_laws.specs.declared.sample.Sample.{Sample}
use Rattle.hls_mend_laws.specs.Fragments.{Fragment, fragment_bytes, total_duration, total_size, HasFields, IsWhole, fragment_facts}
use Rattle.hls_mend_laws.specs.FragmentsRead.{fragment_of}
use Rattle.hls_mend_laws.specs.Retimed.{written, moved, new_duration, retimed_from, retimed, retimed_unit, RetimedKeepFacts, IsRetimed, RetimedKeepSamples}
use Rattle.hls_mend_laws.proofs.Options.{and-then, mapped, if-so}
use Rattle.hls_mend_laws.proofs.FragmentLaws.{fragments-are-units}
use Rattle.hls_mend_laws.proofs.SentLaws.{IsSent, is-sent}

-- these bytes are a fragment as it is written, within the limit of a unit
pub record IsWritten (f : Fragment) (made : List ℕ) : Type 0 where
  pub bytes : made ≡ fragment_bytes f
  pub short : length (fragment_bytes f) ≤ unit_limit

-- what is written of a fragment is its bytes, within the limit of a unit
pub is-written : (f : Fragment) (made : List ℕ) → written f ≡ Some made → IsWritten f made
unfolding written
is-written f made is =
    let w = if-so (nat_le (length (fragment_bytes f)) unit_limit) (fragment_bytes f) made is in
    record { bytes = sym w.1; short = leb-true _ _ w.0 }

-- the fragment that is written again: the sent one from another start, whose first sample lasts for some time and ends as before
record IsMoved (sent : Fragment) (start : ℕ) (again : Fragment) : Type 0 where
  first : Sample
  others : List Sample
  samples : sent.samples ≡ first ∷ others
  duration : ℕ
  lasts : 0 < duration
  fits : duration < 2 ^ 32
  same_end : start + duration ≡ sent.start + first.duration
  is : moved sent start first others duration ≡ again

-- a fragment that is retimed is the sent one from another start, whose first sample ends as before
moved-by : (sent : Fragment) (start : ℕ) (again : Fragment) (ss : List Sample) → sent.samples ≡ ss → retimed_from sent start ss ≡ Some again → IsMoved sent start again
moved-by sent start again [] samples is = absurd (cc)
moved-by sent start again (first ∷ others) samples is =
    let m = mapped (moved sent start first others) (new_duration sent.start first.duration start) again is in
    let d = if-so (nat_lt start (sent.start + first.duration) && nat_lt (sent.start + first.duration - start) (2 ^ 32)) (sent.start + first.duration - start) m.x m.is in
    let low : start < sent.start + first.duration = ltb-true _ _ (and_parts _ _ d.0).0 in
    let high : sent.start + first.duration - start < 2 ^ 32 = ltb-true _ _ (and_parts _ _ d.0).1 in
    let same : sent.start + first.duration - start ≡ m.x = d.1 in
    record {
      first = first;
      others = others;
      samples = samples;
      duration = m.x;
      lasts = omega (arith, low, same);
      fits = omega (arith, high, same);
      same_end = omega (arith, low, same);
      is = m.then;
    }

-- a unit was written again: it was read as a fragment, that was moved, and the moved one was written
record IsAgain (init : InitData) (unit made : List ℕ) (start : ℕ) : Type 0 where
  sent : Fragment
  read : fragment_of init unit ≡ Some sent
  again : Fragment
  move : IsMoved sent start again
  wrote : IsWritten again made

-- a unit that is retimed was read, moved and written
is-again : (init : InitData) (unit made : List ℕ) (start : ℕ) → retimed_unit init unit start ≡ Some made → IsAgain init unit made start
unfolding retimed_unit
is-again init unit made start is =
    let w = and-then written (option_and_then (retimed start) (fragment_of init unit)) made is in
    let r = and-then (retimed start) (fragment_of init unit) w.x w.is in
    record { sent = r.x; read = r.is; again = w.x; move = moved-by r.x start w.x r.x.samples refl r.then; wrote = is-written w.x made w.then }

-- a unit's fragment that is moved is whole if it is within the limit of a unit and lasts for some microseconds
whole-again : (init : InitData) (unit : List ℕ) (f : Facts) (start : ℕ) (sent : Fragment) (again : Fragment) → IsSent init unit f sent → All HasFields sent.samples → (m : IsMoved sent start again)
    → length (fragment_bytes (moved sent start m.first m.others m.duration)) ≤ unit_limit → floor_us start f.scale ≢ f.end_us
    → IsWhole init (moved sent start m.first m.others m.duration)
whole-again init unit f start sent again s fields m short some =
    let changed : Sample = record m.first { duration = m.duration } in
    let sent_lasts : total_duration sent.samples ≡ m.first.duration + total_duration m.others = ap total_duration m.samples ∙ sum_by-cons (λ (s : Sample). s.duration) m.first m.others in
    let lasts : total_duration (changed ∷ m.others) ≡ m.duration + total_duration m.others = sum_by-cons (λ (s : Sample). s.duration) changed m.others in
    let end : start + total_duration (changed ∷ m.others) ≡ sent.start + total_duration sent.samples = omega (arith, lasts, sent_lasts, m.same_end) in
    let both : All HasFields (m.first ∷ m.others) = subst (All HasFields) m.samples fields in
    let first : HasFields m.first = All-head HasFields m.first m.others both in
    let sizes : total_size (changed ∷ m.others) ≡ total_size sent.samples =
    sum_by-cons (λ (s : Sample). s.size) changed m.others ∙ sym (ap total_size m.samples ∙ sum_by-cons (λ (s : Sample). s.size) m.first m.others) in
    let end_us : floor_us (start + total_duration (changed ∷ m.others)) (timing_track init).scale ≡ f.end_us = ap (λ (k : ℕ). floor_us k (timing_track init).scale) end ∙ s.end_us_is in
    let start_us : floor_us start (timing_track init).scale ≡ floor_us start f.scale = ap (λ (k : ℕ). floor_us start k) s.scale_is in
    record {
      loose = s.loose;
      head = s.head;
      fields = All-cons HasFields changed m.others (record { duration = m.fits; size = first.size; flags = first.flags; offset = first.offset }) (All-tail HasFields m.first m.others both);
      filled = sizes ∙ s.filled;
      short = short;
      time = record {
        end_fits = omega (arith, end, s.end_fits);
        end_us_fits = omega (arith, end_us, s.end_us_fits);
        some_time = λ e. some (sym start_us ∙ e ∙ end_us);
      };
    }

-- a unit that is written again keeps its facts, but for its start, its duration and its length
pub retimed-keep-facts : RetimedKeepFacts
retimed-keep-facts init unit made f start sent is read fields retimed some =
    let a = is-again init unit made start retimed in
    let one : a.sent ≡ sent = (let e : Some a.sent ≡ Some sent = sym a.read ∙ read in cc) in
    let m : IsMoved sent start a.again = subst (λ (x : Fragment). IsMoved x start a.again) one a.move in
    let s : IsSent init unit f sent = is-sent init unit f sent is read in
    let again : Fragment = moved sent start m.first m.others m.duration in
    let short : length (fragment_bytes again) ≤ unit_limit = subst (λ (x : Fragment). length (fragment_bytes x) ≤ unit_limit) (sym m.is) a.wrote.short in
    let whole : IsWhole init again = whole-again init unit f start sent a.again s fields m short some in
    let unit_is : IsUnit init (fragment_bytes again) (fragment_facts init again) = fragments-are-units init again whole in
    let bytes : made ≡ fragment_bytes again = a.wrote.bytes ∙ ap fragment_bytes (sym m.is) in
    let changed : Sample = record m.first { duration = m.duration } in
    let sent_lasts : total_duration sent.samples ≡ m.first.duration + total_duration m.others = ap total_duration m.samples ∙ sum_by-cons (λ (s : Sample). s.duration) m.first m.others in
    let lasts : total_duration (changed ∷ m.others) ≡ m.duration + total_duration m.others = sum_by-cons (λ (s : Sample). s.duration) changed m.others in
    let end : start + total_duration (changed ∷ m.others) ≡ sent.start + total_duration sent.samples = omega (arith, lasts, sent_lasts, m.same_end) in
    let end_us : floor_us (start + total_duration (changed ∷ m.others)) (timing_track init).scale ≡ f.end_us = ap (λ (k : ℕ). floor_us k (timing_track init).scale) end ∙ s.end_us_is in (
      fragment_facts init again,
      subst (λ b. IsUnit init b (fragment_facts init again)) (sym bytes) unit_is,
      record {
        starts = refl;
        same_end = omega (arith, end, s.start_is, s.lasts);
        scale = s.scale_is;
        start_us = ap (λ (k : ℕ). floor_us start k) s.scale_is;
        end_us = end_us;
        sync = s.sync_is m.first m.others m.samples;
        len = ap length (sym bytes);
      },
    )

-- the bytes of a unit's fragment that is moved and written have the samples that were sent, but for the first one's duration
same-of : (init : InitData) (unit made : List ℕ) (start : ℕ) (sent again : Fragment) → fragment_of init unit ≡ Some sent → (m : IsMoved sent start again) → IsWritten again made → IsRetimed init unit made start
same-of init unit made start sent again read m wrote = record {
  sent = sent;
  first = m.first;
  others = m.others;
  duration = m.duration;
  read = read;
  samples = m.samples;
  same_end = m.same_end;
  bytes = wrote.bytes ∙ ap fragment_bytes (sym m.is);
}

-- a unit that is written again keeps its samples and their bytes, but for the duration of the first
pub retimed-keep-samples : RetimedKeepSamples
retimed-keep-samples init unit made start is =
    let a = is-again init unit made start is in
    same-of init unit made start a.sent a.again a.read a.move a.wrote
