-- What is recorded is contiguous, and unchanged where there is nothing to mend.
use Rattle.std.proofs.Common.{◌≡◌, ◌∙◌, ℕ, ◌+◌, ◌^◌, ◌<◌, ◌≤◌, ◌==◌, nat_lt, nat_le, ◌&&◌, true, Some, List, [], ◌∷◌, refl, ap, subst, inl, inr, arith}
use Rattle.std.specs.Prelude.{All}
use Rattle.std.specs.List.{fold}
use Rattle.std.proofs.lemmas.Bool.{cond_both, eq-eqb, eqb-true, leb-false, leb-true, and_parts, ltb-true}
use Rattle.std.proofs.lemmas.List.Elements.{All-head, All-tail}
use Rattle.hls_mend_laws.specs.declared.limits.MendLimits.{MendLimits}
use Rattle.hls_mend_laws.specs.declared.treatment.UnitSpan.{UnitSpan}
use Rattle.hls_mend_laws.specs.declared.treatment.Treatment.{Treatment}
use Rattle.hls_mend_laws.specs.declared.treatment.Treatment.TheVariants as treatments
use Rattle.hls_mend_laws.specs.Treatments.{end_of, are_near, can_start_at, is_retimable, other_treatment, treatment_of, Piece, sent_piece, with_unit, mend_next, recording_of, IsFaultlessAfter, FaultlessIsKept, IsContiguous, IsSpan, RecordedIsContiguous, RetimedDurationsFit, RetimedWithinSnap}

-- ---- a stream without faults

-- the recording after one more unit that is recorded as it was sent
abbrev as_sent : List Piece → UnitSpan → List Piece
as_sent ps u = sent_piece u ∷ ps

-- a unit that starts at its rendition's end is kept
kept-at-end : (limits : MendLimits) (end : ℕ) (u : UnitSpan) → u.start ≡ end → treatment_of limits (Some end) u ≡ treatments.Keep
unfolding treatment_of
kept-at-end limits end u here = rw (eq-eqb u.start end here) refl

-- a stream without faults that continues a recording is added to it as it was sent
unchanged : (limits : MendLimits) (us : List UnitSpan) (last : Piece) (older : List Piece) → IsFaultlessAfter last.end us
    → fold (mend_next limits) (last ∷ older) us ≡ fold as_sent (last ∷ older) us
unchanged limits [] last older fine = refl
unchanged limits (u ∷ us) last older fine =
    ap (λ (t : Treatment). fold (mend_next limits) (with_unit t u last older) us) (kept-at-end limits last.end u fine.0)
    ∙ unchanged limits us (sent_piece u) (last ∷ older) fine.1

-- a stream without faults is recorded as it was sent
pub faultless-is-kept : FaultlessIsKept
unfolding recording_of
faultless-is-kept limits [] fine = refl
faultless-is-kept limits (u ∷ us) fine = unchanged limits us (sent_piece u) [] fine

-- ---- a treatment implies where its unit is

-- what a treatment implies: a unit that is kept starts at the end, a retimed one is near it, and fillers and jumps come after it
abbrev Implies : MendLimits → ℕ → UnitSpan → Treatment → Type 0
Implies limits end u treatments.Keep = u.start ≡ end
Implies limits end u treatments.Retime = is_retimable limits end u ≡ true
Implies limits end u treatments.Fill = end ≤ u.start
Implies limits end u treatments.Jump = end + limits.fill < u.start
Implies limits end u treatments.Cut = Unit {0}
Implies limits end u treatments.Drop = Unit {0}

-- the treatment of a unit that isn't kept or retimed implies where the unit is
implies-other : (limits : MendLimits) (end : ℕ) (u : UnitSpan) → Implies limits end u (other_treatment limits end u)
implies-other limits end u =
    cond_both (nat_lt end u.start) _ _ (Implies limits end u)
    (λ later.
    cond_both (nat_le u.start (end + limits.fill)) treatments.Fill treatments.Jump (Implies limits end u)
    (λ near. let after : end < u.start = ltb-true end u.start later in omega (arith, after))
    (λ far. leb-false u.start (end + limits.fill) far))
    (λ earlier. cond_both (u.may_be_cut && nat_lt end (end_of u)) treatments.Cut treatments.Drop (Implies limits end u) (λ some. tt) (λ none. tt))

-- the treatment of a unit implies where the unit is
implies : (limits : MendLimits) (end : ℕ) (u : UnitSpan) → Implies limits end u (treatment_of limits (Some end) u)
unfolding treatment_of
implies limits end u =
    cond_both (u.start == end) treatments.Keep _ (Implies limits end u)
    (λ same. eqb-true u.start end same)
    (λ other. cond_both (is_retimable limits end u) treatments.Retime _ (Implies limits end u) (λ movable. movable) (λ fixed. implies-other limits end u))

-- a unit that is retimed is within the limits for that
is-retimable : (limits : MendLimits) (end : ℕ) (u : UnitSpan) → treatment_of limits (Some end) u ≡ treatments.Retime → is_retimable limits end u ≡ true
is-retimable limits end u retimed = subst (Implies limits end u) retimed (implies limits end u)

-- if a unit can start at `end`, its first sample ends after that, and less than 2^32 ticks later
starts-in-time : (end : ℕ) (u : UnitSpan) → can_start_at end u ≡ true → (end < u.start + u.first) × (u.start + u.first < end + 2 ^ 32)
starts-in-time end u can = (ltb-true end (u.start + u.first) (and_parts _ _ can).0, ltb-true (u.start + u.first) (end + 2 ^ 32) (and_parts _ _ can).1)

-- the first sample of a unit that is retimed lasts for some time, and its duration fits 32 bits
pub retimed-durations-fit : RetimedDurationsFit
retimed-durations-fit limits end u retimed = starts-in-time end u (and_parts _ _ (is-retimable limits end u retimed)).1

-- a unit that is retimed moves by at most `snap` ticks
pub retimed-within-snap : RetimedWithinSnap
retimed-within-snap limits end u retimed =
    let near : are_near limits.snap u.start end ≡ true = (and_parts _ _ (is-retimable limits end u retimed)).0 in
    (leb-true u.start (end + limits.snap) (and_parts _ _ near).0, leb-true end (u.start + limits.snap) (and_parts _ _ near).1)

-- ---- one unit more

-- a treatment that implies where its unit is keeps a recording contiguous
with-unit-contiguous : (limits : MendLimits) (t : Treatment) (u : UnitSpan) (last : Piece) (older : List Piece) → IsSpan u → Implies limits last.end u t
    → IsContiguous limits.fill (last ∷ older) → IsContiguous limits.fill (with_unit t u last older)
with-unit-contiguous limits treatments.Keep u last older lasts here fine = (omega arith, inl here, fine)
with-unit-contiguous limits treatments.Retime u last older lasts can fine =
    let before : last.end < u.start + u.first = (starts-in-time last.end u (and_parts _ _ can).1).0 in
    (omega (arith, before, lasts), inl refl, fine)
with-unit-contiguous limits treatments.Fill u last older lasts after fine = (omega arith, inl refl, (after, inl refl, fine))
with-unit-contiguous limits treatments.Jump u last older lasts far fine = (omega arith, inr far, fine)
with-unit-contiguous limits treatments.Cut u last older lasts any fine = fine
with-unit-contiguous limits treatments.Drop u last older lasts any fine = fine

-- one more unit, which lasts as long as its first sample at least, keeps a recording contiguous
next-contiguous : (limits : MendLimits) (ps : List Piece) (u : UnitSpan) → IsSpan u → IsContiguous limits.fill ps → IsContiguous limits.fill (mend_next limits ps u)
next-contiguous limits [] u lasts fine = omega arith
next-contiguous limits (last ∷ older) u lasts fine = with-unit-contiguous limits (treatment_of limits (Some last.end) u) u last older lasts (implies limits last.end u) fine

-- more units keep a recording contiguous, if each lasts as long as its first sample at least
contiguous-from : (limits : MendLimits) (us : List UnitSpan) (ps : List Piece) → All IsSpan us → IsContiguous limits.fill ps → IsContiguous limits.fill (fold (mend_next limits) ps us)
contiguous-from limits [] ps spans fine = fine
contiguous-from limits (u ∷ us) ps spans fine =
    contiguous-from limits us (mend_next limits ps u) (All-tail IsSpan u us spans) (next-contiguous limits ps u (All-head IsSpan u us spans) fine)

-- what is recorded is contiguous, except across gaps longer than the limit
pub recorded-is-contiguous : RecordedIsContiguous
unfolding recording_of
recorded-is-contiguous limits us spans = contiguous-from limits us [] spans tt
