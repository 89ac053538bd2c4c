-- What is recorded of a unit continues its rendition.
use Rattle.std.proofs.Common.{◌≡◌, ◌⊎◌, ℕ, zero, suc, ◌+◌, ◌-◌, ◌*◌, ◌/◌, ◌<◌, ◌≤◌, ◌==◌, nat_lt, ◌&&◌, Option, Some, None, option_and_then, List, length, refl, sym, subst, inl, inr, arith}
use Rattle.std.proofs.Math.Nat.{lt-div-mul-add, le-max_right}
use Rattle.std.proofs.lemmas.Bool.{cases_Bool, and_parts, eqb-true, ltb-false}
use Rattle.hls_media_laws.specs.FactLists.{last_end}
use Rattle.hls_media_laws.specs.InitData.{InitData}
use Rattle.hls_mend.specs.declared.mended.ReadUnit.{ReadUnit}
use Rattle.hls_mend.specs.MendedUnits.{FillerSource, read_as_unit, with_span, filler, filler_bytes, filler_len, filler_ticks, fillers_after, fillers_from, fillers_by, fillers_to, source_of, span_filler_by, span_for}
use Rattle.hls_mend.specs.Contiguous.{AreJoined, FillersAreJoined}

-- a unit that passes the test for a span covers exactly the ticks of the span
spanned : (start end : ℕ) (o : Option ReadUnit) (u : ReadUnit) → option_and_then (with_span start end) o ≡ Some u → (u.facts.start ≡ start) × (u.facts.start + u.facts.duration ≡ end)
spanned start end None u is = absurd (cc)
spanned start end (Some v) u is = elim (cases_Bool ((v.facts.start == start) && (v.facts.start + v.facts.duration == end))) [
  | inl e ↦
      let same : v ≡ u = (let found : Some v ≡ Some u = rw e at is in cc) in
      let parts = and_parts (v.facts.start == start) (v.facts.start + v.facts.duration == end) e in
      subst (λ (x : ReadUnit). (x.facts.start ≡ start) × (x.facts.start + x.facts.duration ≡ end)) same (eqb-true v.facts.start start parts.0, eqb-true (v.facts.start + v.facts.duration) end parts.1)
  | inr e ↦ (let none : None ≡ Some u = rw e at is in absurd (cc))
]

-- the next filler isn't longer than the gap
ticks-within : (len gap : ℕ) → filler_ticks len gap ≤ gap
ticks-within len gap = grind arith

-- what is left of a gap after its next filler is covered by one filler fewer
ticks-cover : (most len gap : ℕ) → gap ≤ suc most * len → gap - filler_ticks len gap ≤ most * len
ticks-cover most len gap few = elim (cases_Bool (nat_lt gap (2 * len))) [
  | inl e ↦ rw e (let none : gap - gap ≡ 0 = omega arith in omega (arith, none))
  | inr e ↦ rw e (let more : suc most * len ≡ len + most * len = omega arith in omega (arith, few, more))
]

-- 64 fillers cover a gap
len-covers : (duration gap : ℕ) → gap ≤ 64 * filler_len duration gap
len-covers duration gap =
    let up : gap + 63 < (gap + 63) / 64 * 64 + 64 = lt-div-mul-add (omega arith) in
    let least : (gap + 63) / 64 ≤ filler_len duration gap = le-max_right duration ((gap + 63) / 64) in
    omega (arith, up, least)

-- fillers are joined from `start` up to `end`, or to a tick from which the next one can't be made, and are few
record AreFilled (init : InitData) (o : Option FillerSource) (us : List ReadUnit) (most len start end : ℕ) : Type 0 where
  to : ℕ
  joined : AreJoined start us to
  within : to ≤ end
  whole : (to ≡ end) ⊎ (span_filler_by init to (filler_ticks len (end - to)) o ≡ None)
  few : length us ≤ most

-- a filler up to `next` and the fillers that are joined from there are joined from `start`
filled-after : (most len start ticks end : ℕ) (init : InitData) (s : FillerSource) (o : Option ReadUnit) → ticks ≡ filler_ticks len (end - start)
    → filler init s start ticks ≡ o → start + ticks ≤ end
    → ((u : ReadUnit) → o ≡ Some u → (u.facts.start ≡ start) × (u.facts.start + u.facts.duration ≡ start + ticks))
    → AreFilled init (Some s) (fillers_from most init s len (start + ticks) end) most len (start + ticks) end
    → AreFilled init (Some s) (fillers_after (λ (n : ℕ). fillers_from most init s len n end) (start + ticks) o) (suc most) len start end
filled-after most len start ticks end init s None next made low span rest =
    record {
      to = start;
      joined = refl;
      within = omega (arith, low);
      whole = inr (subst (λ (t : ℕ). filler init s start t ≡ None) next made);
      few = omega arith;
    }
filled-after most len start ticks end init s (Some u) next made low span rest =
    let at = span u refl in
    record {
      to = rest.to;
      joined = (at.0, subst (λ (n : ℕ). AreJoined n (fillers_from most init s len (start + ticks) end) rest.to) (sym at.1) rest.joined);
      within = rest.within;
      whole = rest.whole;
      few = omega (arith, rest.few);
    }

-- the fillers that are made of a source from `start` are joined from there up to `end`, or to a tick from which the next one can't be made
filled : (most len start end : ℕ) (init : InitData) (s : FillerSource) → start ≤ end → end - start ≤ most * len
    → AreFilled init (Some s) (fillers_from most init s len start end) most len start end
unfolding fillers_from
filled zero len start end init s begins covered =
    let over : 0 * len ≡ 0 = omega arith in
    record { to = start; joined = refl; within = begins; whole = inl (omega (arith, begins, covered, over)); few = omega arith }
filled (suc most) len start end init s begins covered = elim (cases_Bool (nat_lt start end)) [
  | inl e ↦
      let ticks = filler_ticks len (end - start) in
      let low : start + ticks ≤ end = (let t = ticks-within len (end - start) in omega (arith, t, begins)) in
      let left : end - (start + ticks) ≤ most * len = (let t = ticks-cover most len (end - start) covered in omega (arith, t)) in
      let rest = filled most len (start + ticks) end init s low left in
      let all = filled-after most len start ticks end init s (filler init s start ticks) refl refl low
      (λ u is. spanned start (start + ticks) (option_and_then (read_as_unit init) (filler_bytes init s.unit s.sound (span_for init s.bandwidth start ticks))) u is) rest in
      rw e all
  | inr e ↦ rw e (let over = ltb-false start end e in record { to = start; joined = refl; within = begins; whole = inl (omega (arith, over, begins)); few = omega arith })
]

-- the same with no fillers if there is no source
filled-by : (len : ℕ) (init : InitData) (start end : ℕ) (o : Option FillerSource) → start ≤ end → end - start ≤ 64 * len → AreFilled init o (fillers_by init len start end o) 64 len start end
filled-by len init start end None begins covered = record { to = start; joined = refl; within = begins; whole = inr refl; few = omega arith }
filled-by len init start end (Some s) begins covered = filled 64 len start end init s begins covered

-- the fillers of a gap are joined from the end of the rendition up to the gap's end, unless one can't be made
pub fillers-are-joined : FillersAreJoined
unfolding fillers_to
fillers-are-joined bandwidth init rec f begins =
    let gap = f.start - last_end rec.facts in
    let all = filled-by (filler_len f.duration gap) init (last_end rec.facts) f.start (source_of bandwidth init rec) begins (len-covers f.duration gap) in
    record {
      to = all.to;
      joined = all.joined;
      within = all.within;
      whole = all.whole;
      few = all.few;
    }
