-- Boundaries, one unit at a time, and that a filler fits the rendition that is away.
use Rattle.std.proofs.Common.{◌≡◌, ◌∙◌, ℕ, suc, ◌+◌, ◌-◌, ◌<◌, ◌≤◌, Bool, true, false, ◌&&◌, ◌||◌, not, cond, if◌then◌else◌, Option, Some, None, List, [], ◌∷◌, length, drop, refl, sym, ap, subst, arith}
use Rattle.std.specs.Prelude.{nat_le, slice_get, unwrap_or}
use Rattle.std.specs.Option.{option_map, option_or}
use Rattle.std.proofs.lemmas.Option.{unwrap_or-slice_get}
use Rattle.std.specs.List.{find}
use Rattle.std.proofs.Math.Nat.{le-max_right}
use Rattle.std.proofs.lemmas.Bool.{lt-leb, leb-true}
use Rattle.hls_media_laws.specs.declared.facts.Facts.{Facts}
use Rattle.hls_media_laws.specs.FactLists.{no_facts}
use Rattle.hls_record.specs.RecordingData.{RecordingData}
use Rattle.hls_core_laws.specs.State.{State}
use Rattle.hls_mend.specs.MendedUnits.{is_audio}
use Rattle.hls_housekeeper.specs.declared.fill.FillSpan.{FillSpan}
use Rattle.hls_housekeeper.specs.Away.{begins_second, earlier, end_us_of, first_of, is_boundary, least_end, least_span_us, next_boundary, over_end_us, present_at, span_by, span_over, span_to}

-- ---- renditions

-- among no renditions none passes a test
pub first_zero : (test : ℕ → Bool) → first_of test 0 ≡ None
unfolding first_of
first_zero test = refl

-- the first of r + 1 renditions that passes is that of the first r, or else the last one if it passes
pub first_next : (test : ℕ → Bool) (r : ℕ) → first_of test (r + 1) ≡ option_or (first_of test r) (if test r then Some r else None)
unfolding first_of
first_next test r = let a : r + 1 ≡ suc r = omega arith in rw a refl

-- among no renditions there is no least end
pub least_zero : (s : State) (silent : List Bool) → least_end s silent 0 ≡ None
unfolding least_end
least_zero s silent = refl

-- the least end of r + 1 renditions is the earlier of that of the first r and the last one's, if it is present
pub least_next : (s : State) (silent : List Bool) (r : ℕ) → least_end s silent (r + 1) ≡ earlier (least_end s silent r) (option_map end_us_of (present_at s silent r))
unfolding least_end
least_next s silent r = let a : r + 1 ≡ suc r = omega arith in rw a refl

-- a recording without units ends at 0
pub end_missing : (rec : RecordingData) → slice_get rec.facts (length rec.facts - 1) ≡ None → end_us_of rec ≡ 0
end_missing rec none =
    ap (λ (f : Facts). f.end_us) (sym (unwrap_or-slice_get rec.facts (length rec.facts - 1) no_facts))
    ∙ ap (λ (o : Option Facts). (unwrap_or o no_facts).end_us) none

-- ---- boundaries

-- a unit that a search finds passes its test
found_passes_at : (test : Facts → Bool) (y x : Facts) (b : Bool) (rest : Option Facts) → test y ≡ b → (rest ≡ Some x → test x ≡ true) → cond b (Some y) rest ≡ Some x → test x ≡ true
found_passes_at test y x true rest at later is = let same : y ≡ x = cc in subst (λ (z : Facts). test z ≡ true) same at
found_passes_at test y x false rest at later is = later is

found_passes : (test : Facts → Bool) (xs : List Facts) (x : Facts) → find test xs ≡ Some x → test x ≡ true
found_passes test [] x is = absurd (cc)
found_passes test (y ∷ ys) x is = found_passes_at test y x (test y) (find test ys) refl (λ later. found_passes test ys x later) is

and_second : (a b : Bool) → (a && b) ≡ true → b ≡ true
and_second true b is = is
and_second false b is = absurd (cc)

-- a boundary begins at least the least span after the end
boundary-after : (audio : Bool) (end_us least_us : ℕ) (f : Facts) → is_boundary audio end_us least_us f ≡ true → least_us ≤ f.start_us - end_us
boundary-after audio end_us least_us f is =
    leb-true least_us (f.start_us - end_us) (and_second (f.sync && (not audio || begins_second f)) (nat_le least_us (f.start_us - end_us)) is)

either_none : (b : Bool) (x y : Option FillSpan) → x ≡ None → y ≡ None → (if b then x else y) ≡ None
either_none true x y first second = first
either_none false x y first second = second

-- a filler from a boundary on ends after it
over_late : (limit_us least_us : ℕ) (f : Facts) → limit_us < f.start_us → limit_us < over_end_us least_us f
over_late limit_us least_us f late =
    let above : f.start_us + least_us ≤ over_end_us least_us f = le-max_right f.end_us (f.start_us + least_us) in
    omega (arith, late, above)

-- if the boundary is at least the least span after the end, and not all that are present have come that far, nothing is filled
span_none : (fill_us limit_us : ℕ) (lead rec : RecordingData) (o : Option Facts)
    → ((f : Facts) → o ≡ Some f → least_span_us (is_audio rec.init) ≤ f.start_us - end_us_of rec) → limit_us - end_us_of rec < least_span_us (is_audio rec.init)
    → span_by fill_us limit_us lead rec o ≡ None
span_none fill_us limit_us lead rec None after far = refl
span_none fill_us limit_us lead rec (Some f) after far =
    let gap : least_span_us (is_audio rec.init) ≤ f.start_us - end_us_of rec = after f refl in
    let late : limit_us < f.start_us = omega (arith, gap, far) in
    let above : limit_us < over_end_us (least_span_us (is_audio rec.init)) f = over_late limit_us (least_span_us (is_audio rec.init)) f late in
    either_none (nat_le (f.start_us - end_us_of rec) fill_us) (span_to limit_us lead rec f) (span_over fill_us limit_us (least_span_us (is_audio rec.init)) lead rec f)
    (let no : nat_le f.start_us limit_us ≡ false = lt-leb f.start_us limit_us late in rw no refl)
    (let no : nat_le (over_end_us (least_span_us (is_audio rec.init)) f) limit_us ≡ false = lt-leb (over_end_us (least_span_us (is_audio rec.init)) f) limit_us above in rw no refl)

-- where all that are there haven't come far enough, nothing is filled
pub nothing_due : (fill_us limit_us : ℕ) (lead rec : RecordingData) → limit_us - end_us_of rec < least_span_us (is_audio rec.init)
    → span_by fill_us limit_us lead rec (next_boundary (is_audio lead.init) (end_us_of rec) (least_span_us (is_audio rec.init)) lead.facts) ≡ None
nothing_due fill_us limit_us lead rec far =
    span_none fill_us limit_us lead rec (next_boundary (is_audio lead.init) (end_us_of rec) (least_span_us (is_audio rec.init)) lead.facts)
    (λ f is. boundary-after (is_audio lead.init) (end_us_of rec) (least_span_us (is_audio rec.init)) f
    (found_passes (is_boundary (is_audio lead.init) (end_us_of rec) (least_span_us (is_audio rec.init))) (drop (length lead.facts - 4096) lead.facts) f is)) far
