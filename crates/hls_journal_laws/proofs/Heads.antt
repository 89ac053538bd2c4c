-- Every unit has a head.
use Rattle.std.proofs.Common.{◌≡◌, ◌∙◌, ℕ, ◌+◌, ◌-◌, ◌<◌, ◌≤◌, ◌==◌, nat_lt, Bool, true, false, cond, ◌||◌, Option, Some, None, option_and_then, List, [], ◌∷◌, ◌++◌, length, take, drop, replicate, refl, sym, ap, subst, inl, inr, arith, append_assoc, length-append}
use Rattle.std.specs.Prelude.{Result, Ok, Err}
use Rattle.std.proofs.lemmas.List.{length-drop, length-take-le, take-append-drop, length-replicate, append-nil}
use Rattle.std.proofs.lemmas.Bool.{cases_Bool}
use Rattle.hls_boxes.specs.declared.box_header.BoxHeader.{BoxHeader}
use Rattle.hls_boxes.specs.Kinds.{moov_type, moof_type, mdat_type, unit_limit}
use Rattle.hls_boxes.specs.Boxes.{header_at, Child, child_of, children}
use Rattle.hls_boxes.proofs.Callers.{header_at-front, header_at-within, children-empty}
use Rattle.hls_media_laws.specs.InitData.{InitData}
use Rattle.hls_media_laws.specs.declared.facts.Facts.{Facts}
use Rattle.hls_media_laws.specs.declared.fault.MediaFault.{MediaFault}
use Rattle.hls_media_laws.specs.Layout.{Layout, layout_of, layout_of_boxes, with_mdat, last_box, size_of_box}
use Rattle.hls_media_laws.specs.TrafFacts.{UnitContext}
use Rattle.hls_media_laws.specs.UnitFacts.{facts, facts_with, context_of_layout, trafs_in}
use Rattle.hls_media_laws.specs.IsInitOrUnit.{IsUnit}
use Rattle.hls_journal_laws.specs.Heads.{IsHead, UnitsHaveHeads}
use Rattle.hls_journal_laws.proofs.Boxes.{IsBox, first_of, child_stays, children_cons, no_children}
use Rattle.hls_journal_laws.proofs.Facts.{heads-determine-facts}

-- boxes whose last one is an `mdat`
record EndsWithMdat (bs : List Child) : Type 0 where
  front : List Child
  last : Child
  are : bs ≡ front ++ last ∷ []
  is_mdat : (last.kind == mdat_type) ≡ true

-- boxes that end with an `mdat` still do with another box before them
ends_behind : (b : Child) (bs : List Child) → EndsWithMdat bs → EndsWithMdat (b ∷ bs)
ends_behind b bs e = record { front = b ∷ e.front; last = e.last; are = ap (λ cs. b ∷ cs) e.are; is_mdat = e.is_mdat }

-- if the last box of a layout is an `mdat`, the boxes end with one
ends_here : (moof : List ℕ) (at : ℕ) (b : Child) (bs : List Child) (l : Layout) → (b.kind == mdat_type) ≡ true → last_box moof at b bs ≡ Some l → EndsWithMdat (b ∷ bs)
ends_here moof at b [] l is found = record { front = []; last = b; are = refl; is_mdat = is }
ends_here moof at b (c ∷ cs) l is found = absurd (cc)

-- if the boxes after a `moof` have a layout, they end with an `mdat`
ends_after_moof : (moof : List ℕ) (at : ℕ) (bs : List Child) (l : Layout) → with_mdat moof at bs ≡ Some l → EndsWithMdat bs
ends_after_moof moof at [] l found = absurd (cc)
ends_after_moof moof at (b ∷ bs) l found =
    elim (cases_Bool (b.kind == mdat_type)) [
      | inl e ↦ ends_here moof at b bs l e (rw e at found)
      | inr d ↦
          (let rest : cond (b.kind == moof_type || b.kind == moov_type) None (with_mdat moof (at + size_of_box b) bs) ≡ Some l = rw d at found in
          elim (cases_Bool (b.kind == moof_type || b.kind == moov_type)) [
            | inl e ↦ let none : None ≡ Some l = rw e at rest in absurd (cc)
            | inr f ↦ ends_behind b bs (ends_after_moof moof (at + size_of_box b) bs l (rw f at rest))
          ])
    ]

-- boxes that have a layout end with an `mdat`
ends_with_mdat : (bs : List Child) (l : Layout) → layout_of_boxes bs ≡ Some l → EndsWithMdat bs
ends_with_mdat [] l found = absurd (cc)
ends_with_mdat (b ∷ bs) l found =
    elim (cases_Bool (b.kind == moof_type)) [
      | inl e ↦ ends_behind b bs (ends_after_moof b.content (size_of_box b) bs l (rw e at found))
      | inr d ↦
          (let rest : cond (b.kind == mdat_type || b.kind == moov_type) None (layout_of_boxes bs) ≡ Some l = rw d at found in
          elim (cases_Bool (b.kind == mdat_type || b.kind == moov_type)) [
            | inl e ↦ let none : None ≡ Some l = rw e at rest in absurd (cc)
            | inr f ↦ ends_behind b bs (ends_with_mdat bs l (rw f at rest))
          ])
    ]

-- the last box that fills a text is this one, and the others fill what precedes it
record LastBox (text : List ℕ) (boxes : List Child) (last : Child) : Type 0 where
  front : List ℕ
  box : List ℕ
  header : BoxHeader
  is : text ≡ front ++ box
  filled : children front ≡ Some boxes
  one : IsBox header box
  fits : header.head ≤ header.size
  child : child_of header box ≡ last

-- an empty list after another one leaves it
with_empty : (xs ys : List ℕ) → ys ≡ [] → xs ≡ xs ++ ys
with_empty xs ys none = sym (append-nil xs) ∙ ap (λ zs. xs ++ zs) (sym none)

-- a text that is filled by boxes and one more ends with that one
last_box_of : (boxes : List Child) (text : List ℕ) (last : Child) → children text ≡ Some (boxes ++ last ∷ []) → LastBox text boxes last
last_box_of [] text last filled =
    let f = first_of text last [] filled in
    let none : f.behind ≡ [] = no_children f.behind f.filled in
    record {
      front = [];
      box = f.box ++ f.behind;
      header = f.header;
      is = f.split;
      filled = children-empty;
      one = subst (λ (z : List ℕ). IsBox f.header z) (with_empty f.box f.behind none) f.one;
      fits = f.fits;
      child = ap (λ z. child_of f.header z) (sym (with_empty f.box f.behind none)) ∙ f.child;
    }
last_box_of (b ∷ boxes) text last filled =
    let f = first_of text b (boxes ++ last ∷ []) filled in
    let s = last_box_of boxes f.behind last f.filled in
    let whole : f.header.size ≤ length f.box = omega (arith, f.one.whole) in
    record {
      front = f.box ++ s.front;
      box = s.box;
      header = s.header;
      is = f.split ∙ ap (λ z. f.box ++ z) s.is ∙ sym (append_assoc f.box s.front s.box);
      filled = children_cons f.header f.box s.front boxes f.one f.fits s.filled
          ∙ ap (λ c. Some (c ∷ boxes)) (child_stays f.header f.box s.front f.fits whole ∙ f.child);
      one = s.one;
      fits = s.fits;
      child = s.child;
    }

-- a unit is a head, and a rest of the length that the head says
record HasHead (unit : List ℕ) : Type 0 where
  head : List ℕ
  rest : List ℕ
  is : unit ≡ head ++ rest
  good : IsHead head (length rest)

-- if the last box of a unit is an `mdat`, the unit has a head
head_of_boxes : (unit : List ℕ) (boxes : List Child) (last : Child) → (last.kind == mdat_type) ≡ true → LastBox unit boxes last → HasHead unit
head_of_boxes unit boxes last is_mdat s =
    let within = header_at-within s.box s.header s.one.header in
    let whole : take s.header.head s.box ++ drop s.header.head s.box ≡ s.box = take-append-drop s.header.head s.box in
    let len : length (take s.header.head s.box) ≡ s.header.head = length-take-le s.header.head s.box within.1 in
    record {
      head = s.front ++ take s.header.head s.box;
      rest = drop s.header.head s.box;
      is = s.is ∙ ap (λ z. s.front ++ z) (sym whole) ∙ sym (append_assoc s.front (take s.header.head s.box) (drop s.header.head s.box));
      good = record {
        front = s.front;
        boxes = boxes;
        last = take s.header.head s.box;
        header = s.header;
        split = refl;
        filled = s.filled;
        begins = header_at-front (take s.header.head s.box) (drop s.header.head s.box) s.header (rw whole s.one.header) (omega (arith, len));
        is_mdat = ap (λ (c : Child). c.kind == mdat_type) s.child ∙ is_mdat;
        fits = s.fits;
        ends = omega (arith, len, length-drop s.header.head s.box, s.one.whole, within.1);
      };
    }

-- a unit whose boxes have a layout has a head
head_of_children : (unit : List ℕ) (boxes : Option (List Child)) (l : Layout) → children unit ≡ boxes → option_and_then layout_of_boxes boxes ≡ Some l → HasHead unit
head_of_children unit None l are found = absurd (cc)
head_of_children unit (Some bs) l are found =
    let e = ends_with_mdat bs l found in
    head_of_boxes unit e.front e.last e.is_mdat (last_box_of e.front unit e.last (are ∙ ap Some e.are))

-- a unit with a layout has a head
head_of_layout : (unit : List ℕ) (l : Layout) → layout_of unit ≡ Some l → HasHead unit
unfolding layout_of
head_of_layout unit l found =
    elim (cases_Bool (nat_lt unit_limit (length unit))) [
      | inl long ↦ let none : None ≡ Some l = rw long at found in absurd (cc)
      | inr short ↦ head_of_children unit (children unit) l refl (rw short at found)
    ]

-- if the facts of a unit are read, it has a layout
has_layout : (g : UnitContext) (len : ℕ) (o : Option Layout) (f : Facts) → facts_with g len (trafs_in o) ≡ Ok f → (l : Layout) × (o ≡ Some l)
has_layout g len None f is = absurd (cc)
has_layout g len (Some l) f is = (l, refl)

-- every unit has a head
head_of_unit : (init : InitData) (unit : List ℕ) (f : Facts) → IsUnit init unit f → HasHead unit
unfolding facts
head_of_unit init unit f is =
    let l = has_layout (context_of_layout init (layout_of unit)) (length unit) (layout_of unit) f is in
    head_of_layout unit l.0 l.1

-- every unit has a head, and with as many zeros after it, its facts are the unit's
pub units-have-heads : UnitsHaveHeads
units-have-heads init unit f is =
    let h = head_of_unit init unit f is in
    let zeros : length (replicate (length h.rest) 0) ≡ length h.rest = length-replicate (length h.rest) 0 in
    let same : facts init (h.head ++ replicate (length h.rest) 0) ≡ facts init (h.head ++ h.rest) = heads-determine-facts init h.head h.rest (replicate (length h.rest) 0) h.good zeros in
    (h.head, h.rest, h.is, h.good, same ∙ ap (λ u. facts init u) (sym h.is) ∙ is)
