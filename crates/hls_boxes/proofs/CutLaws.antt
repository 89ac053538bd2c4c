-- Laws of the cut, box by box.
use Rattle.std.proofs.Common.{◌≡◌, ℕ, zero, suc, ◌+◌, ◌<◌, ◌≤◌, ◌==◌, Bool, true, false, ◌||◌, nat_lt, if◌then◌else◌, Some, None, List, [], ◌∷◌, ◌++◌, length, sym, ◌∙◌, ap, inl, inr, arith, refl, subst}
use Rattle.std.proofs.lemmas.List.{length-append, append_assoc, append-nil}
use Rattle.std.proofs.lemmas.Bool.{cases_Bool, cond_both}
use Rattle.hls_boxes.specs.declared.box_header.BoxHeader.{BoxHeader}
use Rattle.hls_boxes.specs.declared.part.Part.{Part}
use Rattle.hls_boxes.specs.declared.part.Part.TheVariants as parts
use Rattle.hls_boxes.specs.declared.fault.BoxFault.{BoxFault}
use Rattle.hls_boxes.specs.Kinds.{moov_type, moof_type}
use Rattle.hls_boxes.specs.Boxes.{Child, child_of, children, kinds_of}
use Rattle.hls_boxes.specs.Parts.{limit_of, part_of, bytes_of, Remainder, Nothing, Boxes, CutShort, Refused, StreamCut, after_parts, rest_of_part, cut_at, stream_cut, fault_of_rest}
use Rattle.hls_boxes.proofs.Headers.{IsBox}
use Rattle.hls_boxes.proofs.Walk.{children-empty, children-box}
use Rattle.hls_boxes.proofs.KindLaws.{walks, limit_of_part, Good, fault_of-good, walks-joins, walks-ends}
use Rattle.hls_boxes.proofs.Steps.{IsHeaderFault, fault_of-header, is_end, cut_at-joins, cut_at-ends, Stops, Refuses, Joining, Ending, turn, shorter, fault_of-fits}

-- the part that a box ends has the bytes that it was given
pub bytes_of-part_of : (kind : ℕ) (bytes : List ℕ) → bytes_of (part_of kind bytes) ≡ bytes
bytes_of-part_of kind bytes = cond_both (kind == moov_type) (parts.Init bytes) (parts.Unit bytes) (λ p. bytes_of p ≡ bytes) (λ e. refl) (λ e. refl)

-- the first part of a cut: it ends with `front`, which boxes fill, and the rest is cut from there
pub record First (before rest : List ℕ) (has_moof : Bool) (part : Part) : Type 0 where
  pub front : List ℕ
  pub behind : List ℕ
  pub split : rest ≡ front ++ behind
  pub some : 0 < length front
  pub bytes : bytes_of part ≡ before ++ front
  pub follows : (more : List ℕ) → cut_at before (front ++ more) has_moof ≡ after_parts (part ∷ []) (stream_cut more)
  pub boxes : List Child
  pub filled : children front ≡ Some boxes
  pub kinds : walks part has_moof (kinds_of boxes) ≡ true
  pub limit : length before + length front ≤ limit_of_part part

-- if a box joins the part in progress, and a first part is cut from there, that is the first part from before the box
first-joins : (h : BoxHeader) (before rest box behind : List ℕ) (has_moof : Bool) (part : Part) → rest ≡ box ++ behind → IsBox h box → Good h (length before) has_moof → is_end h.kind ≡ false
    → ((more : List ℕ) → cut_at before (box ++ more) has_moof ≡ cut_at (before ++ box) more (has_moof || h.kind == moof_type))
    → First (before ++ box) behind (has_moof || h.kind == moof_type) part → First before rest has_moof part
first-joins h before rest box behind has_moof part split one good joins goes f = record {
  front = box ++ f.front;
  behind = f.behind;
  split = split ∙ ap (λ xs. box ++ xs) f.split ∙ sym (append_assoc box f.front f.behind);
  some = omega (arith, length-append box f.front, f.some);
  bytes = f.bytes ∙ append_assoc before box f.front;
  follows = λ more. rw (append_assoc box f.front more) (goes (f.front ++ more) ∙ f.follows more);
  boxes = child_of h (box ++ f.front) ∷ f.boxes;
  filled = children-box h box f.front f.boxes one good.fits f.filled;
  kinds = walks-joins part has_moof h.kind (kinds_of f.boxes) joins good.moof ∙ f.kinds;
  limit = omega (arith, f.limit, length-append before box, length-append box f.front);
}

-- the limit of a part is that of the box that ends it
part_limit : (kind : ℕ) (bytes : List ℕ) → limit_of_part (part_of kind bytes) ≡ limit_of kind
part_limit kind bytes = elim (cases_Bool (kind == moov_type)) [ inl is ↦ rw is refl | inr not ↦ rw not refl ]

-- if a box ends the part in progress, this is the first part
first-ends : (h : BoxHeader) (before rest box behind : List ℕ) (has_moof : Bool) → rest ≡ box ++ behind → IsBox h box → Good h (length before) has_moof → is_end h.kind ≡ true → 0 < length box
    → ((more : List ℕ) → cut_at before (box ++ more) has_moof ≡ after_parts (part_of h.kind (before ++ box) ∷ []) (stream_cut more))
    → First before rest has_moof (part_of h.kind (before ++ box))
first-ends h before rest box behind has_moof split one good ends some goes = record {
  front = box;
  behind = behind;
  split = split;
  some = some;
  bytes = bytes_of-part_of h.kind (before ++ box);
  follows = goes;
  boxes = child_of h box ∷ [];
  filled = simp append-nil at (children-box h box [] [] one good.fits children-empty);
  kinds = walks-ends (before ++ box) has_moof h.kind ends good.mdat good.moof;
  limit = rw (part_limit h.kind (before ++ box), one.whole) good.limit;
}

-- a box is not empty, since what follows it is shorter
box-some : (h : BoxHeader) (rest box behind : List ℕ) → rest ≡ box ++ behind → IsBox h box → h.head ≤ h.size → 0 < length box
box-some h rest box behind split one fits =
    omega (arith, shorter h rest box behind split one fits, ap length split, length-append box behind)

-- if a cut has a part, it has a first part, given a bound on the number of bytes
pub first_within : (bound : ℕ) (before rest : List ℕ) (has_moof : Bool) (part : Part) (others : List Part) → length rest < bound
    → (cut_at before rest has_moof).parts ≡ part ∷ others → First before rest has_moof part
first_within zero before rest has_moof part others less is = absurd (omega arith)
first_within (suc bound) before rest has_moof part others less is = elim (turn before rest has_moof) [
  | Stops waits stops ↦ let none : [] ≡ part ∷ others = rw stops at is in absurd (cc)
  | Refuses h fault header bad all ↦
      let none : [] ≡ part ∷ others = sym (ap (λ (c : StreamCut). c.parts) (rw append-nil at (all []))) ∙ is in absurd (cc)
  | Joining h box behind split one good joins ↦
      let fits = fault_of-fits h (length before) has_moof good in
      let less' = shorter h rest box behind split one fits in
      let goes = λ (more : List ℕ). cut_at-joins h before box more has_moof one good joins in
      let is' : (cut_at (before ++ box) behind (has_moof || h.kind == moof_type)).parts ≡ part ∷ others =
      sym (ap (λ (c : StreamCut). c.parts) (ap (λ (xs : List ℕ). cut_at before xs has_moof) split ∙ goes behind)) ∙ is in
      first-joins h before rest box behind has_moof part split one (fault_of-good h (length before) has_moof good) joins goes
      (first_within bound (before ++ box) behind (has_moof || h.kind == moof_type) part others (omega arith) is')
  | Ending h box behind split one good ends ↦
      let fits = fault_of-fits h (length before) has_moof good in
      let goes = λ (more : List ℕ). cut_at-ends h before box more has_moof one good ends in
      let is' : part_of h.kind (before ++ box) ∷ (stream_cut behind).parts ≡ part ∷ others =
      sym (ap (λ (c : StreamCut). c.parts) (ap (λ (xs : List ℕ). cut_at before xs has_moof) split ∙ goes behind)) ∙ is in
      let same : part_of h.kind (before ++ box) ≡ part = cc in
      subst (λ (p : Part). First before rest has_moof p) same
      (first-ends h before rest box behind has_moof split one (fault_of-good h (length before) has_moof good) ends (box-some h rest box behind split one fits) goes)
]

-- if a text has a part, the first one is a prefix that boxes fill, and the rest is cut from there
pub first_of : (bytes : List ℕ) (part : Part) (others : List Part) → (stream_cut bytes).parts ≡ part ∷ others → First [] bytes false part
first_of bytes part others is = first_within (suc (length bytes)) [] bytes false part others (omega arith) is

-- a remainder that shows no fault
abbrev pub IsOpen : Remainder → Type 0
IsOpen Nothing = Unit {0}
IsOpen (Boxes has_moof) = Unit {0}
IsOpen CutShort = Unit {0}
IsOpen (Refused fault) = ⊥

-- the remainder for a part in progress shows no fault
pub left_of-open : (before rest : ℕ) (has_moof : Bool) → IsOpen (rest_of_part before rest has_moof)
left_of-open before rest has_moof =
    cond_both (nat_lt 0 rest) CutShort (if has_moof then Boxes true else (if nat_lt 0 before then Boxes false else Nothing)) IsOpen (λ e. tt) (λ e.
    cond_both has_moof (Boxes true) (if nat_lt 0 before then Boxes false else Nothing) IsOpen (λ e. tt) (λ e.
    cond_both (nat_lt 0 before) (Boxes false) Nothing IsOpen (λ e. tt) (λ e. tt)))

-- the remainder for a part in progress isn't one of a faulty header
pub left_of-goes : (before rest : ℕ) (has_moof : Bool) (fault : BoxFault) → rest_of_part before rest has_moof ≡ Refused fault → ⊥
left_of-goes before rest has_moof fault is = subst IsOpen is (left_of-open before rest has_moof)

-- the fault is that of a header, and the cut doesn't change when bytes follow
pub record Stays (before rest : List ℕ) (has_moof : Bool) (fault : BoxFault) : Type 0 where
  pub header : IsHeaderFault fault
  pub stays : (more : List ℕ) → cut_at before (rest ++ more) has_moof ≡ cut_at before rest has_moof

-- if a cut has a fault, it is that of a header, and the cut doesn't change when bytes follow, given a bound on the number of bytes
refused_within : (bound : ℕ) (before rest : List ℕ) (has_moof : Bool) (fault : BoxFault) → length rest < bound
    → (cut_at before rest has_moof).left ≡ Refused fault → Stays before rest has_moof fault
refused_within zero before rest has_moof fault less is = absurd (omega arith)
refused_within (suc bound) before rest has_moof fault less is = elim (turn before rest has_moof) [
  | Stops waits stops ↦ absurd (left_of-goes (length before) (length rest) has_moof fault (sym (ap (λ (c : StreamCut). c.left) stops) ∙ is))
  | Refuses h fault' header bad all ↦
      let now : cut_at before rest has_moof ≡ record { parts = []; left = Refused fault' } = rw append-nil at (all []) in
      let left : Refused fault' ≡ Refused fault = sym (ap (λ (c : StreamCut). c.left) now) ∙ is in
      let same : fault' ≡ fault = cc in
      record { header = subst IsHeaderFault same (fault_of-header h (length before) has_moof fault' bad); stays = λ more. all more ∙ sym now }
  | Joining h box behind split one good joins ↦
      let fits = fault_of-fits h (length before) has_moof good in
      let less' = shorter h rest box behind split one fits in
      let goes = λ (more : List ℕ). cut_at-joins h before box more has_moof one good joins in
      let now = ap (λ (xs : List ℕ). cut_at before xs has_moof) split ∙ goes behind in
      let ih = refused_within bound (before ++ box) behind (has_moof || h.kind == moof_type) fault (omega arith) (sym (ap (λ (c : StreamCut). c.left) now) ∙ is) in
      record {
        header = ih.header;
        stays = λ more.
            ap (λ (xs : List ℕ). cut_at before (xs ++ more) has_moof) split ∙ ap (λ (xs : List ℕ). cut_at before xs has_moof) (append_assoc box behind more)
            ∙ goes (behind ++ more) ∙ ih.stays more ∙ sym now;
      }
  | Ending h box behind split one good ends ↦
      let fits = fault_of-fits h (length before) has_moof good in
      let less' = shorter h rest box behind split one fits in
      let goes = λ (more : List ℕ). cut_at-ends h before box more has_moof one good ends in
      let now = ap (λ (xs : List ℕ). cut_at before xs has_moof) split ∙ goes behind in
      let ih = refused_within bound [] behind false fault (omega arith) (sym (ap (λ (c : StreamCut). c.left) now) ∙ is) in
      record {
        header = ih.header;
        stays = λ more.
            ap (λ (xs : List ℕ). cut_at before (xs ++ more) has_moof) split ∙ ap (λ (xs : List ℕ). cut_at before xs has_moof) (append_assoc box behind more)
            ∙ goes (behind ++ more) ∙ ap (λ (c : StreamCut). after_parts (part_of h.kind (before ++ box) ∷ []) c) (ih.stays more) ∙ sym now;
      }
]

-- if a text has a fault, it is that of a header, and its cut doesn't change when bytes follow
pub refused : (bytes : List ℕ) (fault : BoxFault) → (stream_cut bytes).left ≡ Refused fault → Stays [] bytes false fault
refused bytes fault is = refused_within (suc (length bytes)) [] bytes false fault (omega arith) is

-- a remainder that isn't one of a faulty header has no fault
pub open-fault_left : (left : Remainder) → IsOpen left → fault_of_rest left ≡ None
open-fault_left Nothing goes = refl
open-fault_left (Boxes has_moof) goes = refl
open-fault_left CutShort goes = refl
open-fault_left (Refused fault) goes = absurd goes
