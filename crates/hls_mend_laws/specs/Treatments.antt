-- What becomes of units, one after another, in ticks of their rendition.
use Rattle.std.specs.Prelude.{◌≡◌, ◌⊎◌, ℕ, ◌+◌, ◌^◌, ◌<◌, ◌≤◌, ◌==◌, nat_lt, nat_le, Bool, true, false, ◌&&◌, if◌then◌else◌, Option, Some, None, List, [], ◌∷◌, All}
use Rattle.std.specs.List.{fold}
use Rattle.hls_mend_laws.specs.declared.limits.MendLimits.{MendLimits}
use Rattle.hls_mend_laws.specs.declared.treatment.UnitSpan.{UnitSpan}
use Rattle.hls_mend_laws.specs.declared.treatment.Treatment.{Treatment}
use Rattle.hls_mend_laws.specs.declared.treatment.Treatment.TheVariants as treatments

-- the tick at which a unit ends
abbrev pub end_of : UnitSpan → ℕ
end_of u = u.start + u.duration

-- two times that are at most `most` apart
abbrev pub are_near : ℕ → ℕ → ℕ → Bool
are_near most a b = nat_le a (b + most) && nat_le b (a + most)

-- whether the first sample of a unit can start at `start` and end as before: it lasts for some time, and its duration fits 32 bits
abbrev pub can_start_at : ℕ → UnitSpan → Bool
can_start_at start u = nat_lt start (u.start + u.first) && nat_lt (u.start + u.first) (start + 2 ^ 32)

-- whether a unit is written again to start at the end of its rendition
abbrev pub is_retimable : MendLimits → ℕ → UnitSpan → Bool
is_retimable limits end u = are_near limits.snap u.start end && can_start_at end u

-- a unit that isn't written again: after the end it is filled up to if the gap isn't too long, and before the end only a part of it that
-- lies after the end can be kept
abbrev pub other_treatment : MendLimits → ℕ → UnitSpan → Treatment
other_treatment limits end u =
    if nat_lt end u.start then (if nat_le u.start (end + limits.fill) then treatments.Fill else treatments.Jump)
    else (if u.may_be_cut && nat_lt end (end_of u) then treatments.Cut else treatments.Drop)

-- a unit of a rendition that ends at `end`
abbrev pub treatment_at : MendLimits → ℕ → UnitSpan → Treatment
treatment_at limits end u =
    if u.start == end then treatments.Keep
    else (if is_retimable limits end u then treatments.Retime else other_treatment limits end u)

-- the same for a rendition that may have no unit yet
unfoldable pub treatment_of : MendLimits → Option ℕ → UnitSpan → Treatment
treatment_of limits None u = treatments.Keep
treatment_of limits (Some end) u = treatment_at limits end u

-- a recorded unit: its start, its end, and whether it is one as it was sent
pub record Piece : Type 0 where
  pub start : ℕ
  pub end : ℕ
  pub is_sent : Bool

-- a unit that is recorded as it was sent
abbrev pub sent_piece : UnitSpan → Piece
sent_piece u = record { start = u.start; end = end_of u; is_sent = true }

-- a unit that mending made, from `start` to `end`
abbrev pub made_piece : ℕ → ℕ → Piece
made_piece start end = record { start = start; end = end; is_sent = false }

-- a recording, its newest unit first, after a unit of this treatment, where `last` is the newest unit before it. Of a unit that is cut
-- nothing is recorded itself, since its rest is treated as a unit of its own
abbrev pub with_unit : Treatment → UnitSpan → Piece → List Piece → List Piece
with_unit treatments.Keep u last older = sent_piece u ∷ last ∷ older
with_unit treatments.Retime u last older = made_piece last.end (end_of u) ∷ last ∷ older
with_unit treatments.Fill u last older = sent_piece u ∷ made_piece last.end u.start ∷ last ∷ older
with_unit treatments.Jump u last older = sent_piece u ∷ last ∷ older
with_unit treatments.Cut u last older = last ∷ older
with_unit treatments.Drop u last older = last ∷ older

-- the recording after one more unit arrives; the first unit is recorded as it was sent
abbrev pub mend_next : MendLimits → List Piece → UnitSpan → List Piece
mend_next limits [] u = sent_piece u ∷ []
mend_next limits (last ∷ older) u = with_unit (treatment_of limits (Some last.end) u) u last older

-- the recording of units that arrive one after another
unfoldable pub recording_of : MendLimits → List UnitSpan → List Piece
recording_of limits us = fold (mend_next limits) [] us

-- the first unit starts at `end`, and each later one at the end of the one before it
abbrev pub IsFaultlessAfter : ℕ → List UnitSpan → Type 0
IsFaultlessAfter end [] = Unit {0}
IsFaultlessAfter end (u ∷ us) = (u.start ≡ end) × IsFaultlessAfter (end_of u) us

-- a stream without faults: each unit after the first starts at the end of the one before it
abbrev pub IsFaultless : List UnitSpan → Type 0
IsFaultless [] = Unit {0}
IsFaultless (u ∷ us) = IsFaultlessAfter (end_of u) us

-- the recording of a stream without faults is its units as they were sent, and nothing else
abbrev pub FaultlessIsKept : Type 0
FaultlessIsKept = (limits : MendLimits) (us : List UnitSpan) → IsFaultless us → recording_of limits us ≡ fold (λ (ps : List Piece) (u : UnitSpan). sent_piece u ∷ ps) [] us

-- each unit of a recording starts at the end of the one before it, or more than `fill` later; none ends before it starts
abbrev pub IsContiguous : ℕ → List Piece → Type 0
IsContiguous fill [] = Unit {0}
IsContiguous fill (p ∷ []) = p.start ≤ p.end
IsContiguous fill (p ∷ (last ∷ older)) = (p.start ≤ p.end) × ((p.start ≡ last.end) ⊎ (last.end + fill < p.start)) × IsContiguous fill (last ∷ older)

-- a unit lasts at least as long as its first sample
abbrev pub IsSpan : UnitSpan → Type 0
IsSpan u = u.first ≤ u.duration

-- whatever units arrive, if each lasts as long as its first sample at least, the recording is contiguous but for gaps longer than `fill`
abbrev pub RecordedIsContiguous : Type 0
RecordedIsContiguous = (limits : MendLimits) (us : List UnitSpan) → All IsSpan us → IsContiguous limits.fill (recording_of limits us)

-- the first sample of a unit that is retimed still lasts for some time, and its duration fits its field
abbrev pub RetimedDurationsFit : Type 0
RetimedDurationsFit =
    (limits : MendLimits) (end : ℕ) (u : UnitSpan) → treatment_of limits (Some end) u ≡ treatments.Retime
    → (end < u.start + u.first) × (u.start + u.first < end + 2 ^ 32)

-- a unit that is retimed moves by at most `snap`
abbrev pub RetimedWithinSnap : Type 0
RetimedWithinSnap =
    (limits : MendLimits) (end : ℕ) (u : UnitSpan) → treatment_of limits (Some end) u ≡ treatments.Retime
    → (u.start ≤ end + limits.snap) × (end ≤ u.start + limits.snap)
