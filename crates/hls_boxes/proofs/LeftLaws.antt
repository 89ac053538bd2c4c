-- The remainder of a text without a part.
use Rattle.std.proofs.Common.{◌≡◌, ℕ, zero, suc, ◌+◌, ◌<◌, ◌≤◌, ◌==◌, Bool, true, false, ◌||◌, ◌&&◌, Option, Some, None, List, [], ◌∷◌, ◌++◌, length, sym, ◌∙◌, ap, inl, inr, arith, refl, subst}
use Rattle.std.proofs.lemmas.List.{length-append, append_assoc, append-nil}
use Rattle.std.proofs.lemmas.Bool.{cases_lt, cases_Bool, lt-ltb, le-ltb}
use Rattle.hls_boxes.specs.declared.box_header.BoxHeader.{BoxHeader}
use Rattle.hls_boxes.specs.declared.fault.BoxFault.{BoxFault}
use Rattle.hls_boxes.specs.declared.box_effect.BoxEffect.TheVariants.{Incomplete}
use Rattle.hls_boxes.specs.Kinds.{moov_type, moof_type, mdat_type, unit_limit}
use Rattle.hls_boxes.specs.Boxes.{header_at, Child, child_of, children, kinds_of}
use Rattle.hls_boxes.specs.Parts.{fault_of, limit_of, effect_of_checked_box, effect_of_header, effect_at, part_of, Remainder, Refused, rest_of_part, StreamCut, cut_at, stream_cut}
use Rattle.hls_boxes.specs.Grammar.{AreLoose, OpenKinds, IsIncompleteBox, IsTail, HasNoPart}
use Rattle.hls_boxes.proofs.Headers.{IsBox}
use Rattle.hls_boxes.proofs.Walk.{children-empty, children-box}
use Rattle.hls_boxes.proofs.KindLaws.{by_kind, Good, fault_of-good}
use Rattle.hls_boxes.proofs.Steps.{is_end, Stops, Refuses, Joining, Ending, turn, shorter, fault_of-fits, cut_at-joins, cut_at-ends}

-- if a box with this header is incomplete, it has no fault and lacks bytes
short_if : (tail : List ℕ) (before : ℕ) (has_moof : Bool) (h : BoxHeader) (o : Option BoxFault) → header_at tail ≡ Some h → fault_of h before has_moof ≡ o → effect_of_checked_box h (length tail) has_moof o ≡ Incomplete → IsIncompleteBox tail before has_moof
short_if tail before has_moof h (Some fault) header is waits = absurd (cc)
short_if tail before has_moof h None header is waits = elim (cases_lt (length tail) h.size) [
  | inl short ↦ inr (h, header, is, short)
  | inr long ↦ elim (cases_Bool (is_end h.kind)) [
    | inl ends ↦ let no_wait = rw (le-ltb (length tail) h.size long, ends) at waits in absurd (cc)
    | inr joins ↦ let no_wait = rw (le-ltb (length tail) h.size long, joins) at waits in absurd (cc)
  ]
]

-- if a box is incomplete, its header is, or it has no fault and lacks bytes, given its header, if that is complete
short_by : (tail : List ℕ) (before : ℕ) (has_moof : Bool) (o : Option BoxHeader) → header_at tail ≡ o → effect_of_header o (length tail) before has_moof ≡ Incomplete → IsIncompleteBox tail before has_moof
short_by tail before has_moof None header waits = inl header
short_by tail before has_moof (Some h) header waits = short_if tail before has_moof h (fault_of h before has_moof) header refl waits

-- if a box is incomplete, its header is, or it has no fault and lacks bytes
short : (tail : List ℕ) (before : ℕ) (has_moof : Bool) → effect_at tail before has_moof ≡ Incomplete → IsIncompleteBox tail before has_moof
unfolding effect_at
short tail before has_moof waits = short_by tail before has_moof (header_at tail) refl waits

-- a list without elements is empty
no_bytes : (xs : List ℕ) → length xs ≤ 0 → xs ≡ []
no_bytes [] is = refl
no_bytes (x ∷ xs) is = absurd (omega arith)

-- if there is a `moof`, and there is none without bytes before it, there are such bytes
positive : (before : ℕ) (has_moof : Bool) → (before ≡ 0 → has_moof ≡ false) → has_moof ≡ true → 0 < before
positive zero has_moof free held = let wrong : true ≡ false = sym held ∙ free refl in absurd (cc)
positive (suc n) has_moof free held = omega arith

-- if the next box is incomplete, the boxes before it and its bytes leave what the grammar says: nothing, boxes, or a truncated box
behind_waits : (before : ℕ) (tail : List ℕ) (has_moof : Bool) → (before ≡ 0 → has_moof ≡ false) → effect_at tail before has_moof ≡ Incomplete → IsTail before has_moof tail (rest_of_part before (length tail) has_moof)
behind_waits before tail has_moof free waits = elim (cases_lt 0 (length tail)) [
  | inl some ↦ rw (lt-ltb 0 (length tail) some) (some, short tail before has_moof waits)
  | inr none ↦ rw (le-ltb 0 (length tail) none) (elim (cases_Bool has_moof) [
    | inl held ↦ rw held (positive before has_moof free held, no_bytes tail none, refl)
    | inr not_held ↦ rw not_held (elim (cases_lt 0 before) [
      | inl some ↦ rw (lt-ltb 0 before some) (some, no_bytes tail none, refl)
      | inr nothing ↦ rw (le-ltb 0 before nothing) (let z : before ≡ 0 = omega (arith, nothing) in z, no_bytes tail none)
    ])
  ])
]

-- boxes of these types end no part; there is at most one `moof`, before them if `has_moof`, and before their end if `after`
abbrev pub opens : Bool → List ℕ → Bool → Type 0
opens has_moof [] after = has_moof ≡ after
opens has_moof (k ∷ kinds) after = (is_end k ≡ false) × (((k == moof_type || k == moov_type) && has_moof) ≡ false) × opens (has_moof || k == moof_type) kinds after

-- both parts of a true conjunction are true
both : (a b : Bool) → (a && b) ≡ true → (a ≡ true) × (b ≡ true)
both true b is = (refl, is)
both false b is = absurd (cc)

-- loose types with a type in front that is none of the three are loose
loose-more : (k : ℕ) (kinds : List ℕ) → (k == moov_type) ≡ false → (k == moof_type) ≡ false → (k == mdat_type) ≡ false → AreLoose kinds → AreLoose (k ∷ kinds)
loose-more k kinds a b c are = rw (a, b, c) are

-- boxes that end no part after a `moof` are loose
opens-held : (kinds : List ℕ) (after : Bool) → opens true kinds after → AreLoose kinds × (true ≡ after)
opens-held [] after = λ o. (refl, o)
opens-held (k ∷ kinds) after = by_kind k (λ k. opens true (k ∷ kinds) after → AreLoose (k ∷ kinds) × (true ≡ after))
    (λ o. let no_end = o.0 in absurd (cc)) (λ o. let no_moof = o.1 in absurd (cc)) (λ o. let no_end = o.0 in absurd (cc))
    (λ a b c o. let rest = opens-held kinds after o.2 in (loose-more k kinds a b c rest.0, rest.1))

-- the types of boxes that end no part, with a type in front that is none of the three, are such types
open-more : (k : ℕ) (kinds : List ℕ) (after : Bool) → (k == moov_type) ≡ false → (k == moof_type) ≡ false → (k == mdat_type) ≡ false → OpenKinds after kinds → OpenKinds after (k ∷ kinds)
open-more k kinds false a b c are = loose-more k kinds a b c are
open-more k kinds true a b c are = (k ∷ are.0, are.1, loose-more k are.0 a b c are.2, are.3, ap (λ (ks : List ℕ). k ∷ ks) are.4)

-- the types of boxes that end no part are those of the grammar
opens-kinds : (kinds : List ℕ) (after : Bool) → opens false kinds after → OpenKinds after kinds
opens-kinds [] after = λ o. subst (λ (b : Bool). OpenKinds b []) o refl
opens-kinds (k ∷ kinds) after = by_kind k (λ k. opens false (k ∷ kinds) after → OpenKinds after (k ∷ kinds))
    (λ o. let no_end = o.0 in absurd (cc))
    (λ o.
    let rest = opens-held kinds after o.2 in
    subst (λ (b : Bool). OpenKinds b (moof_type ∷ kinds)) rest.1 ([], kinds, refl, rest.0, refl))
    (λ o. let no_end = o.0 in absurd (cc))
    (λ a b c o. open-more k kinds after a b c (opens-kinds kinds after (subst (λ (m : Bool). opens m kinds after) b o.2)))

-- the rest of a text without a part: boxes that end no part, within the limit, and the tail after them
record Rest (before rest : List ℕ) (has_moof : Bool) (left : Remainder) : Type 0 where
  front : List ℕ
  tail : List ℕ
  boxes : List Child
  after : Bool
  split : rest ≡ front ++ tail
  filled : children front ≡ Some boxes
  kinds : opens has_moof (kinds_of boxes) after
  limit : length (before ++ front) ≤ unit_limit
  behind : IsTail (length (before ++ front)) after tail left

-- if no box is complete, the rest is its tail
rest_here : (before rest : List ℕ) (has_moof : Bool) (left : Remainder) → length before ≤ unit_limit → IsTail (length before) has_moof rest left → Rest before rest has_moof left
rest_here before rest has_moof left limit behind = record {
  front = [];
  tail = rest;
  boxes = [];
  after = has_moof;
  split = refl;
  filled = children-empty;
  kinds = refl;
  limit = subst (λ (xs : List ℕ). length xs ≤ unit_limit) (sym (append-nil before)) limit;
  behind = subst (λ (xs : List ℕ). IsTail (length xs) has_moof rest left) (sym (append-nil before)) behind;
}

-- a box that ends no part has the limit of a unit
pub no_moov : (k : ℕ) → is_end k ≡ false → limit_of k ≡ unit_limit
no_moov k joins = elim (cases_Bool (k == moov_type)) [ inl is ↦ let wrong : true ≡ false = rw is at joins in absurd (cc) | inr not ↦ rw not refl ]

-- a box that joins the part in progress is in front of the boxes that end no part
rest_more : (h : BoxHeader) (before rest box behind : List ℕ) (has_moof : Bool) (left : Remainder) → rest ≡ box ++ behind → IsBox h box → Good h (length before) has_moof → is_end h.kind ≡ false
    → Rest (before ++ box) behind (has_moof || h.kind == moof_type) left → Rest before rest has_moof left
rest_more h before rest box behind has_moof left split one good joins r =
    let same : (before ++ box) ++ r.front ≡ before ++ (box ++ r.front) = append_assoc before box r.front in
    record {
      front = box ++ r.front;
      tail = r.tail;
      boxes = child_of h (box ++ r.front) ∷ r.boxes;
      after = r.after;
      split = split ∙ ap (λ (xs : List ℕ). box ++ xs) r.split ∙ sym (append_assoc box r.front r.tail);
      filled = children-box h box r.front r.boxes one good.fits r.filled;
      kinds = (joins, good.moof, r.kinds);
      limit = subst (λ (xs : List ℕ). length xs ≤ unit_limit) same r.limit;
      behind = subst (λ (xs : List ℕ). IsTail (length xs) r.after r.tail left) same r.behind;
    }

-- the rest of a cut without a part is boxes that end no part, and a tail, given a bound on the number of bytes
rest_within : (bound : ℕ) (before rest : List ℕ) (has_moof : Bool) (left : Remainder) → length rest < bound → length before ≤ unit_limit → (length before ≡ 0 → has_moof ≡ false)
    → cut_at before rest has_moof ≡ record { parts = []; left = left } → Rest before rest has_moof left
rest_within zero before rest has_moof left less limit free is = absurd (omega arith)
rest_within (suc bound) before rest has_moof left less limit free is = elim (turn before rest has_moof) [
  | Stops waits stops ↦
      let now : rest_of_part (length before) (length rest) has_moof ≡ left = ap (λ (c : StreamCut). c.left) (sym stops ∙ is) in
      rest_here before rest has_moof left limit
      (subst (λ (l : Remainder). IsTail (length before) has_moof rest l) now (behind_waits (length before) rest has_moof free waits))
  | Refuses h fault header bad all ↦
      let now : Refused fault ≡ left = ap (λ (c : StreamCut). c.left) (sym (rw append-nil at (all [])) ∙ is) in
      rest_here before rest has_moof left limit
      (subst (λ (l : Remainder). IsTail (length before) has_moof rest l) now (h, header, bad))
  | Joining h box behind split one good joins ↦
      let fits = fault_of-fits h (length before) has_moof good in
      let less' = shorter h rest box behind split one fits in
      let well = fault_of-good h (length before) has_moof good in
      let long : length (before ++ box) ≡ length before + length box = length-append before box in
      let whole : length rest ≡ length box + length behind = ap length split ∙ length-append box behind in
      let now = sym (ap (λ (xs : List ℕ). cut_at before xs has_moof) split ∙ cut_at-joins h before box behind has_moof one good joins) ∙ is in
      rest_more h before rest box behind has_moof left split one well joins
      (rest_within bound (before ++ box) behind (has_moof || h.kind == moof_type) left (omega arith) (omega (arith, long, one.whole, well.limit, no_moov h.kind joins))
      (λ z. absurd (omega (arith, z, long, whole, less'))) now)
  | Ending h box behind split one good ends ↦
      let now = sym (ap (λ (xs : List ℕ). cut_at before xs has_moof) split ∙ cut_at-ends h before box behind has_moof one good ends) ∙ is in
      let none : part_of h.kind (before ++ box) ∷ (stream_cut behind).parts ≡ [] = ap (λ (c : StreamCut). c.parts) now in
      absurd (cc)
]

-- a text that has no part by the cut has none by the grammar, and the same remainder
pub left_unended : (bytes : List ℕ) (left : Remainder) → stream_cut bytes ≡ record { parts = []; left = left } → HasNoPart bytes left
left_unended bytes left is =
    let r = rest_within (suc (length bytes)) [] bytes false left (omega arith) (omega arith) (λ z. refl) is in
    record { front = r.front; tail = r.tail; boxes = r.boxes; has_moof = r.after; split = r.split; filled = r.filled; kinds = opens-kinds (kinds_of r.boxes) r.after r.kinds; limit = r.limit; behind = r.behind }
