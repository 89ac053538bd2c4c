-- One box of the cut: its effect, which doesn't depend on what follows.
use Rattle.std.proofs.Common.{◌≡◌, ℕ, zero, suc, ◌<◌, ◌≤◌, ◌==◌, Bool, true, false, ◌||◌, ◌&&◌, if◌then◌else◌, Option, Some, None, List, [], ◌∷◌, ◌++◌, length, take, drop, sym, ◌∙◌, ap, inl, inr, arith, refl, subst}
use Rattle.std.proofs.lemmas.List.{length-append, length-take-le, take-append-le, take-append-drop, drop_at}
use Rattle.std.proofs.Math.Seq.{take-length}
use Rattle.std.proofs.lemmas.Bool.{cases_lt, cases_Bool, lt-ltb, le-ltb}
use Rattle.hls_boxes.specs.declared.box_header.BoxHeader.{BoxHeader}
use Rattle.hls_boxes.specs.declared.fault.BoxFault.{BoxFault}
use Rattle.hls_boxes.specs.declared.fault.BoxFault.TheVariants.{BadSize, TooLarge, OpenEnded, MdatAlone, MoofWithoutMdat, Truncated, Memory}
use Rattle.hls_boxes.specs.declared.box_effect.BoxEffect.{BoxEffect}
use Rattle.hls_boxes.specs.declared.box_effect.BoxEffect.TheVariants.{Incomplete, Fault, Continues, Ends}
use Rattle.hls_boxes.specs.Kinds.{moov_type, moof_type, mdat_type}
use Rattle.hls_boxes.specs.Boxes.{header_at}
use Rattle.hls_boxes.specs.Parts.{fault_of, effect_of_box, effect_of_checked_box, effect_of_header, effect_at, part_of, StreamCut, Refused, after_parts, rest_of_part, cut_by_effect, cut_within, cut_at, stream_cut}
use Rattle.hls_boxes.proofs.Headers.{IsBox, header_at-append, header_at-front, header_at-within}

-- a box of this type ends a part
abbrev pub is_end : ℕ → Bool
is_end kind = kind == moov_type || kind == mdat_type

-- a size without a fault is at least the header's
pub fault_of-fits : (h : BoxHeader) (before : ℕ) (has_moof : Bool) → fault_of h before has_moof ≡ None → h.head ≤ h.size
fault_of-fits h before has_moof good =
    elim (cases_lt h.size h.head) [
      | inr fits ↦ fits
      | inl low ↦ elim (cases_Bool (h.size == 0 && h.head == 8)) [
        | inl zero_size ↦ let bad = rw zero_size at good in absurd (cc)
        | inr some_size ↦ let bad = rw (some_size, lt-ltb h.size h.head low) at good in absurd (cc)
      ]
    ]

-- the faults that a header can have
abbrev pub IsHeaderFault : BoxFault → Type 0
IsHeaderFault BadSize = Unit {0}
IsHeaderFault TooLarge = Unit {0}
IsHeaderFault OpenEnded = Unit {0}
IsHeaderFault MdatAlone = Unit {0}
IsHeaderFault MoofWithoutMdat = Unit {0}
IsHeaderFault Truncated = ⊥
IsHeaderFault Memory = ⊥

-- the fault, if there is one, is one that a header can have
record Shows (o : Option BoxFault) : Type 0 where
  header : (fault : BoxFault) → o ≡ Some fault → IsHeaderFault fault

shows-none : Shows None
shows-none = record { header = λ fault is. absurd (cc) }

-- a test for a header's fault, before tests that show only such faults, shows only such faults
shows : (b : Bool) (fault : BoxFault) (o : Option BoxFault) → IsHeaderFault fault → Shows o → Shows (if b then Some fault else o)
shows true fault o header s = record { header = λ f is. let same : fault ≡ f = cc in subst IsHeaderFault same header }
shows false fault o header s = s

-- a header has no other fault
pub fault_of-header : (h : BoxHeader) (before : ℕ) (has_moof : Bool) (fault : BoxFault) → fault_of h before has_moof ≡ Some fault → IsHeaderFault fault
fault_of-header h before has_moof fault bad =
    let each : Shows (fault_of h before has_moof) =
    shows _ OpenEnded _ tt (shows _ BadSize _ tt (shows _ MdatAlone _ tt (shows _ MoofWithoutMdat _ tt (shows _ TooLarge _ tt shows-none)))) in
    each.header fault bad

-- the next box is incomplete, or its header is faulty, or it is complete and without a fault
pub data Came (rest : List ℕ) (before : ℕ) (has_moof : Bool) (next : BoxEffect) : Type 0 where
  Waits : Incomplete ≡ next → Came rest before has_moof next
  Fails : (h : BoxHeader) (fault : BoxFault) → header_at rest ≡ Some h → fault_of h before has_moof ≡ Some fault → Fault fault ≡ next → Came rest before has_moof next
  Passes : (h : BoxHeader) (box behind : List ℕ) → rest ≡ box ++ behind → IsBox h box → fault_of h before has_moof ≡ None → effect_of_box h has_moof ≡ next → Came rest before has_moof next

-- each box with this header is one of these cases
came_if : (rest : List ℕ) (before : ℕ) (has_moof : Bool) (h : BoxHeader) (o : Option BoxFault) → header_at rest ≡ Some h → fault_of h before has_moof ≡ o → Came rest before has_moof (effect_of_checked_box h (length rest) has_moof o)
came_if rest before has_moof h (Some fault) header bad = Fails h fault header bad refl
came_if rest before has_moof h None header good =
    elim (cases_lt (length rest) h.size) [
      | inl short ↦ Waits (rw (lt-ltb (length rest) h.size short) refl)
      | inr long ↦
          let fits : h.head ≤ h.size = fault_of-fits h before has_moof good in
          let whole : length (take h.size rest) ≡ h.size = length-take-le h.size rest long in
          let split : rest ≡ take h.size rest ++ drop h.size rest = sym (take-append-drop h.size rest) in
          let header' : header_at (take h.size rest ++ drop h.size rest) ≡ Some h = rw (take-append-drop h.size rest) header in
          Passes h (take h.size rest) (drop h.size rest) split
          (record { header = header_at-front (take h.size rest) (drop h.size rest) h header' (omega arith); whole = whole })
          good (rw (le-ltb (length rest) h.size long) refl)
    ]

-- each box with this header, or with an incomplete one, is one of these cases
came_by : (rest : List ℕ) (before : ℕ) (has_moof : Bool) (o : Option BoxHeader) → header_at rest ≡ o → Came rest before has_moof (effect_of_header o (length rest) before has_moof)
came_by rest before has_moof None header = Waits refl
came_by rest before has_moof (Some h) header = came_if rest before has_moof h (fault_of h before has_moof) header refl

-- the next box is one of these cases
pub came : (rest : List ℕ) (before : ℕ) (has_moof : Bool) → Came rest before has_moof (effect_at rest before has_moof)
unfolding effect_at
came rest before has_moof = came_by rest before has_moof (header_at rest) refl

-- a box without a fault has the same effect, whatever follows it
pub next_of-passed : (h : BoxHeader) (box more : List ℕ) (before : ℕ) (has_moof : Bool) → IsBox h box → fault_of h before has_moof ≡ None → effect_at (box ++ more) before has_moof ≡ effect_of_box h has_moof
unfolding effect_at
next_of-passed h box more before has_moof is good =
    let header : header_at (box ++ more) ≡ Some h = header_at-append box more h is.header in
    let long : h.size ≤ length (box ++ more) = omega (arith, length-append box more, is.whole) in
    rw (header, good, le-ltb (length (box ++ more)) h.size long) refl

-- a faulty header has the same effect, whatever follows it
pub next_of-fault : (h : BoxHeader) (rest more : List ℕ) (before : ℕ) (has_moof : Bool) (fault : BoxFault) → header_at rest ≡ Some h → fault_of h before has_moof ≡ Some fault → effect_at (rest ++ more) before has_moof ≡ Fault fault
unfolding effect_at
next_of-fault h rest more before has_moof fault header bad =
    rw (header_at-append rest more h header, bad) refl

-- two cuts that agree on what follows the next box agree at that box
cut_by-same : (f g : List ℕ → List ℕ → Bool → StreamCut) (before rest : List ℕ) (has_moof : Bool) (next : BoxEffect)
    → ((h : BoxHeader) (box behind front : List ℕ) (moof : Bool) → rest ≡ box ++ behind → IsBox h box → h.head ≤ h.size → f front behind moof ≡ g front behind moof)
    → Came rest (length before) has_moof next → cut_by_effect f before rest has_moof next ≡ cut_by_effect g before rest has_moof next
cut_by-same f g before rest has_moof next same (Waits is) = rw (← is) refl
cut_by-same f g before rest has_moof next same (Fails h fault header bad is) = rw (← is) refl
cut_by-same f g before rest has_moof next same (Passes h box behind split one good is) =
    let fits : h.head ≤ h.size = fault_of-fits h (length before) has_moof good in
    let behind_is : drop h.size rest ≡ behind = ap (drop h.size) split ∙ drop_at box behind h.size one.whole in
    rw (← is) (elim (cases_Bool (is_end h.kind)) [
      | inl ends ↦ rw (ends, behind_is) (ap (λ c. after_parts (part_of h.kind (before ++ take h.size rest) ∷ []) c) (same h box behind [] false split one fits))
      | inr joins ↦ rw (joins, behind_is) (same h box behind (before ++ take h.size rest) (has_moof || h.kind == moof_type) split one fits)
    ])

-- what follows a box is shorter
pub shorter : (h : BoxHeader) (rest box behind : List ℕ) → rest ≡ box ++ behind → IsBox h box → h.head ≤ h.size → length behind < length rest
shorter h rest box behind split one fits =
    let wide = header_at-within box h one.header in
    omega (arith, ap length split, length-append box behind, one.whole, wide.0)

-- more steps than bytes are enough for a cut
cut_within_enough : (most bound : ℕ) (before rest : List ℕ) (has_moof : Bool) → length rest < most → length rest < bound → cut_within most before rest has_moof ≡ cut_within bound before rest has_moof
unfolding cut_within
cut_within_enough zero bound before rest has_moof less more = absurd (omega arith)
cut_within_enough (suc most) zero before rest has_moof less more = absurd (omega arith)
cut_within_enough (suc most) (suc bound) before rest has_moof less more =
    cut_by-same (cut_within most) (cut_within bound) before rest has_moof (effect_at rest (length before) has_moof)
    (λ h box behind front moof split one fits.
    let less' : length behind < length rest = shorter h rest box behind split one fits in
    cut_within_enough most bound front behind moof (omega arith) (omega arith))
    (came rest (length before) has_moof)

-- the cut of a text is one box, followed by the cut of the rest
pub cut_at-step : (before rest : List ℕ) (has_moof : Bool) → cut_at before rest has_moof ≡ cut_by_effect cut_at before rest has_moof (effect_at rest (length before) has_moof)
unfolding cut_at cut_within
cut_at-step before rest has_moof =
    cut_by-same (cut_within (length rest)) cut_at before rest has_moof (effect_at rest (length before) has_moof)
    (λ h box behind front moof split one fits.
    cut_within_enough (length rest) (suc (length behind)) front behind moof (shorter h rest box behind split one fits) (omega arith))
    (came rest (length before) has_moof)

-- a complete box without a fault that ends no part joins the part in progress, whatever follows
pub cut_at-joins : (h : BoxHeader) (before box more : List ℕ) (has_moof : Bool) → IsBox h box → fault_of h (length before) has_moof ≡ None → is_end h.kind ≡ false
    → cut_at before (box ++ more) has_moof ≡ cut_at (before ++ box) more (has_moof || h.kind == moof_type)
cut_at-joins h before box more has_moof one good joins =
    let size : length box ≡ h.size = one.whole in
    let next : effect_at (box ++ more) (length before) has_moof ≡ Continues (has_moof || h.kind == moof_type) h.size = next_of-passed h box more (length before) has_moof one good ∙ rw joins refl in
    let front : take h.size (box ++ more) ≡ box = rw (← size) (take-append-le (length box) box more (omega arith) ∙ take-length box) in
    let behind : drop h.size (box ++ more) ≡ more = drop_at box more h.size size in
    cut_at-step before (box ++ more) has_moof ∙ rw next (rw (front, behind) refl)

-- a complete box without a fault that ends a part ends the part in progress, whatever follows
pub cut_at-ends : (h : BoxHeader) (before box more : List ℕ) (has_moof : Bool) → IsBox h box → fault_of h (length before) has_moof ≡ None → is_end h.kind ≡ true
    → cut_at before (box ++ more) has_moof ≡ after_parts (part_of h.kind (before ++ box) ∷ []) (stream_cut more)
cut_at-ends h before box more has_moof one good ends =
    let size : length box ≡ h.size = one.whole in
    let next : effect_at (box ++ more) (length before) has_moof ≡ Ends h.kind h.size = next_of-passed h box more (length before) has_moof one good ∙ rw ends refl in
    let front : take h.size (box ++ more) ≡ box = rw (← size) (take-append-le (length box) box more (omega arith) ∙ take-length box) in
    let behind : drop h.size (box ++ more) ≡ more = drop_at box more h.size size in
    cut_at-step before (box ++ more) has_moof ∙ rw next (rw (front, behind) refl)

-- a faulty header stops the cut, whatever follows
pub cut_at-fault : (h : BoxHeader) (before rest more : List ℕ) (has_moof : Bool) (fault : BoxFault) → header_at rest ≡ Some h → fault_of h (length before) has_moof ≡ Some fault
    → cut_at before (rest ++ more) has_moof ≡ record { parts = []; left = Refused fault }
cut_at-fault h before rest more has_moof fault header bad =
    cut_at-step before (rest ++ more) has_moof ∙ rw (next_of-fault h rest more (length before) has_moof fault header bad) refl

-- the next step of a cut: it stops at an incomplete box or a faulty header, or a box joins or ends the part in progress
pub data Turn (before rest : List ℕ) (has_moof : Bool) : Type 0 where
  Stops : effect_at rest (length before) has_moof ≡ Incomplete → cut_at before rest has_moof ≡ record { parts = []; left = rest_of_part (length before) (length rest) has_moof } → Turn before rest has_moof
  Refuses : (h : BoxHeader) (fault : BoxFault) → header_at rest ≡ Some h → fault_of h (length before) has_moof ≡ Some fault → ((more : List ℕ) → cut_at before (rest ++ more) has_moof ≡ record { parts = []; left = Refused fault }) → Turn before rest has_moof
  Joining : (h : BoxHeader) (box behind : List ℕ) → rest ≡ box ++ behind → IsBox h box → fault_of h (length before) has_moof ≡ None → is_end h.kind ≡ false → Turn before rest has_moof
  Ending : (h : BoxHeader) (box behind : List ℕ) → rest ≡ box ++ behind → IsBox h box → fault_of h (length before) has_moof ≡ None → is_end h.kind ≡ true → Turn before rest has_moof

-- by the cases of the next box, each cut has one of these steps
turn_by : (before rest : List ℕ) (has_moof : Bool) (next : BoxEffect) → effect_at rest (length before) has_moof ≡ next → Came rest (length before) has_moof next → Turn before rest has_moof
turn_by before rest has_moof next now (Waits is) = Stops (now ∙ sym is) (cut_at-step before rest has_moof ∙ rw (now, ← is) refl)
turn_by before rest has_moof next now (Fails h fault header bad is) = Refuses h fault header bad (λ more. cut_at-fault h before rest more has_moof fault header bad)
turn_by before rest has_moof next now (Passes h box behind split one good is) =
    elim (cases_Bool (is_end h.kind)) [ inl ends ↦ Ending h box behind split one good ends | inr joins ↦ Joining h box behind split one good joins ]

-- each cut has one of these steps
pub turn : (before rest : List ℕ) (has_moof : Bool) → Turn before rest has_moof
turn before rest has_moof = turn_by before rest has_moof (effect_at rest (length before) has_moof) refl (came rest (length before) has_moof)
