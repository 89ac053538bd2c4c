-- A text that is exactly one part: by the cut, and by the walk over its boxes.
use Rattle.std.proofs.Common.{◌≡◌, ℕ, zero, suc, ◌+◌, ◌<◌, ◌≤◌, ◌==◌, Bool, true, false, ◌||◌, Option, Some, None, List, [], ◌∷◌, ◌++◌, length, sym, ◌∙◌, ap, inl, inr, arith, refl, subst}
use Rattle.std.proofs.lemmas.List.{length-append, append_assoc, append-nil}
use Rattle.std.proofs.lemmas.Bool.{cases_Bool}
use Rattle.hls_boxes.specs.declared.box_header.BoxHeader.{BoxHeader}
use Rattle.hls_boxes.specs.declared.part.Part.{Part}
use Rattle.hls_boxes.specs.declared.part.Part.TheVariants as parts
use Rattle.hls_boxes.specs.Kinds.{moof_type, init_limit, unit_limit}
use Rattle.hls_boxes.specs.Boxes.{header_at, Child, children, kinds_of}
use Rattle.hls_boxes.specs.Parts.{limit_of, bytes_of, Nothing, StreamCut, after_parts, effect_at, cut_within, cut_at, stream_cut, IsInitPart, IsUnitPart}
use Rattle.hls_boxes.proofs.KindTests.{ends_init, has_unit, fills}
use Rattle.hls_boxes.proofs.Headers.{header_at-within}
use Rattle.hls_boxes.proofs.Walk.{FirstBox, first_box, children-none}
use Rattle.hls_boxes.proofs.KindLaws.{walks, limit_of_part, part_like, good-fault_of, walks-joins, walks-allowed}
use Rattle.hls_boxes.proofs.Steps.{is_end, cut_at-joins, cut_at-ends, shorter}
use Rattle.hls_boxes.proofs.CutLaws.{first_of}

-- the empty text leaves nothing
pub cut-empty : stream_cut [] ≡ record { parts = []; left = Nothing }
unfolding cut_at cut_within effect_at header_at
cut-empty = refl

-- if the list of the types of boxes is empty, so is the list of the boxes
no_kinds : (boxes : List Child) → kinds_of boxes ≡ [] → boxes ≡ []
no_kinds [] is = refl
no_kinds (b ∷ boxes) is = absurd (cc)

-- boxes that complete a part are cut as that part, if those after the first one are cut so after it
walked_box : (bound : ℕ) (before front : List ℕ) (has_moof : Bool) (p : Part) (b : Child) (boxes : List Child) → length front < suc bound
    → walks p has_moof (kinds_of (b ∷ boxes)) ≡ true → length before + length front ≤ limit_of_part p → FirstBox front b boxes
    → ((h : BoxHeader) (box behind : List ℕ) → front ≡ box ++ behind → length behind < length front → children behind ≡ Some boxes → walks p (has_moof || h.kind == moof_type) (kinds_of boxes) ≡ true → length (before ++ box) + length behind ≤ limit_of_part p
    → (more : List ℕ) → cut_at (before ++ box) (behind ++ more) (has_moof || h.kind == moof_type) ≡ after_parts (part_like p ((before ++ box) ++ behind) ∷ []) (stream_cut more))
    → (more : List ℕ) → cut_at before (front ++ more) has_moof ≡ after_parts (part_like p (before ++ front) ∷ []) (stream_cut more)
walked_box bound before front has_moof p b boxes less walk within f ih more =
    let h = f.header in
    let box = f.box in
    let behind = f.behind in
    let wide = header_at-within box h f.one.header in
    let walk' : walks p has_moof (h.kind ∷ kinds_of boxes) ≡ true = subst (λ (k : ℕ). walks p has_moof (k ∷ kinds_of boxes) ≡ true) f.kind walk in
    let allowed = walks-allowed p has_moof h.kind (kinds_of boxes) walk' in
    let long : length front ≡ length box + length behind = ap length f.split ∙ length-append box behind in
    let limit : length before + h.size ≤ limit_of h.kind = omega (arith, long, f.one.whole, allowed.limit) in
    let good = good-fault_of h (length before) has_moof wide.0 (record { fits = f.fits; mdat = allowed.mdat; moof = allowed.moof; limit = limit }) in
    let split : front ++ more ≡ box ++ (behind ++ more) = ap (λ (xs : List ℕ). xs ++ more) f.split ∙ append_assoc box behind more in
    let again : cut_at before (front ++ more) has_moof ≡ cut_at before (box ++ (behind ++ more)) has_moof = ap (λ (xs : List ℕ). cut_at before xs has_moof) split in
    again ∙ elim (cases_Bool (is_end h.kind)) [
      | inl ends ↦
          let last = allowed.last ends in
          let empty : boxes ≡ [] = no_kinds boxes last.0 in
          let none : behind ≡ [] = children-none behind (f.filled ∙ ap Some empty) in
          let all : front ≡ box = f.split ∙ ap (λ (xs : List ℕ). box ++ xs) none ∙ append-nil box in
          let tail : behind ++ more ≡ more = ap (λ (xs : List ℕ). xs ++ more) none in
          ap (λ (xs : List ℕ). cut_at before (box ++ xs) has_moof) tail ∙ cut_at-ends h before box more has_moof f.one good ends
          ∙ ap (λ (q : Part). after_parts (q ∷ []) (stream_cut more)) (last.1 (before ++ box) ∙ ap (λ (xs : List ℕ). part_like p (before ++ xs)) (sym all))
      | inr joins ↦
          let walk'' : walks p (has_moof || h.kind == moof_type) (kinds_of boxes) ≡ true = sym (walks-joins p has_moof h.kind (kinds_of boxes) joins allowed.moof) ∙ walk' in
          let less' = shorter h front box behind f.split f.one f.fits in
          let whole : (before ++ box) ++ behind ≡ before ++ front = append_assoc before box behind ∙ ap (λ (xs : List ℕ). before ++ xs) (sym f.split) in
          cut_at-joins h before box (behind ++ more) has_moof f.one good joins
          ∙ ih h box behind f.split less' f.filled walk'' (omega (arith, long, length-append before box)) more
          ∙ ap (λ (xs : List ℕ). after_parts (part_like p xs ∷ []) (stream_cut more)) whole
    ]

-- without boxes no part is complete
walks-none : (p : Part) (has_moof : Bool) → walks p has_moof [] ≡ true → ⊥
walks-none (parts.Init bytes) false is = absurd (cc)
walks-none (parts.Init bytes) true is = absurd (cc)
walks-none (parts.Unit bytes) false is = absurd (cc)
walks-none (parts.Unit bytes) true is = absurd (cc)

-- boxes that a walk accepts are cut as one part, whatever follows them
pub walked : (bound : ℕ) (before front : List ℕ) (has_moof : Bool) (p : Part) (boxes : List Child) → length front < bound → children front ≡ Some boxes
    → walks p has_moof (kinds_of boxes) ≡ true → length before + length front ≤ limit_of_part p
    → (more : List ℕ) → cut_at before (front ++ more) has_moof ≡ after_parts (part_like p (before ++ front) ∷ []) (stream_cut more)
walked zero before front has_moof p boxes less filled walk within more = absurd (omega arith)
walked (suc bound) before front has_moof p [] less filled walk within more = absurd (walks-none p has_moof walk)
walked (suc bound) before front has_moof p (b ∷ boxes) less filled walk within more =
    walked_box bound before front has_moof p b boxes less walk within (first_box front b boxes filled)
    (λ h box behind split less' filled' walk' within' more'. walked bound (before ++ box) behind (has_moof || h.kind == moof_type) p boxes (omega arith) filled' walk' within' more') more

-- if bytes are filled by boxes whose types pass a test, there are such boxes
pub fills-boxes : (kinds_hold : List ℕ → Bool) (o : Option (List Child)) → fills kinds_hold o ≡ true → (boxes : List Child) × (o ≡ Some boxes) × (kinds_hold (kinds_of boxes) ≡ true)
fills-boxes kinds_hold None is = absurd (cc)
fills-boxes kinds_hold (Some boxes) is = (boxes, refl, is)

-- a text that is exactly one part is filled, within the limit, by boxes that complete a part of its kind
pub one_part : (p : Part) (bytes : List ℕ) → stream_cut bytes ≡ record { parts = p ∷ []; left = Nothing } → bytes_of p ≡ bytes
    → (boxes : List Child) × (children bytes ≡ Some boxes) × (walks p false (kinds_of boxes) ≡ true) × (length bytes ≤ limit_of_part p)
one_part p bytes is whole =
    let f = first_of bytes p [] (ap (λ (c : StreamCut). c.parts) is) in
    let same : f.front ≡ bytes = sym f.bytes ∙ whole in
    (f.boxes, ap children (sym same) ∙ f.filled, f.kinds, omega (arith, f.limit, ap length same))

-- a text that is filled, within the limit, by boxes that complete a part of a kind is exactly one part of this kind
pub whole_part : (p : Part) (bytes : List ℕ) (boxes : List Child) → children bytes ≡ Some boxes → walks p false (kinds_of boxes) ≡ true → length bytes ≤ limit_of_part p
    → stream_cut bytes ≡ record { parts = part_like p bytes ∷ []; left = Nothing }
whole_part p bytes boxes filled walk within =
    sym (ap stream_cut (append-nil bytes)) ∙ walked (suc (length bytes)) [] bytes false p boxes (omega arith) filled walk (omega arith) []
    ∙ ap (λ (c : StreamCut). after_parts (part_like p bytes ∷ []) c) cut-empty

-- a text that is exactly one part is within the limit, and the types of its boxes pass the test of a part of its kind
part_fills : (p : Part) (bytes : List ℕ) → stream_cut bytes ≡ record { parts = p ∷ []; left = Nothing } → bytes_of p ≡ bytes
    → (length bytes ≤ limit_of_part p) × (fills (walks p false) (children bytes) ≡ true)
part_fills p bytes is whole =
    let one = one_part p bytes is whole in
    (one.3, ap (fills (walks p false)) one.1 ∙ one.2)

-- a text within the limit, the types of whose boxes pass the test of a part of a kind, is exactly one part of this kind
fills_part : (p : Part) (bytes : List ℕ) → length bytes ≤ limit_of_part p → fills (walks p false) (children bytes) ≡ true
    → stream_cut bytes ≡ record { parts = part_like p bytes ∷ []; left = Nothing }
fills_part p bytes within is =
    let one = fills-boxes (walks p false) (children bytes) is in
    whole_part p bytes one.0 one.1 one.2 within

-- a text that is exactly one unit is within the limit, and the types of its boxes pass the test of a unit
pub unit_part : (bytes : List ℕ) → IsUnitPart bytes → (length bytes ≤ unit_limit) × (fills has_unit (children bytes) ≡ true)
unit_part bytes is = part_fills (parts.Unit bytes) bytes is refl

-- a text within the limit, the types of whose boxes pass the test of a unit, is exactly one unit
pub unit_whole : (bytes : List ℕ) → length bytes ≤ unit_limit → fills has_unit (children bytes) ≡ true → IsUnitPart bytes
unit_whole bytes within is = fills_part (parts.Unit bytes) bytes within is

-- a text that is exactly one init section is within the limit, and the types of its boxes pass the test of an init section
pub init_part : (bytes : List ℕ) → IsInitPart bytes → (length bytes ≤ init_limit) × (fills ends_init (children bytes) ≡ true)
init_part bytes is = part_fills (parts.Init bytes) bytes is refl

-- a text within the limit, the types of whose boxes pass the test of an init section, is exactly one init section
pub init_whole : (bytes : List ℕ) → length bytes ≤ init_limit → fills ends_init (children bytes) ≡ true → IsInitPart bytes
init_whole bytes within is = fills_part (parts.Init bytes) bytes within is
