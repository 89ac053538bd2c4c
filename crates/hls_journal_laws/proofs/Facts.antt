-- The facts of a unit depend on the length of its `mdat`'s content alone.
use Rattle.std.proofs.Common.{◌≡◌, ◌∙◌, ℕ, ◌+◌, ◌-◌, ◌<◌, ◌≤◌, ◌==◌, nat_lt, Bool, true, false, cond, ◌||◌, Option, Some, None, option_and_then, List, [], ◌∷◌, ◌++◌, length, take, drop, refl, sym, ap, subst, inl, inr, arith, append_assoc, length-append}
use Rattle.std.proofs.lemmas.List.{length-drop, length-take-le}
use Rattle.std.proofs.lemmas.Bool.{cases_Bool, eqb-true}
use Rattle.hls_boxes.specs.declared.box_header.BoxHeader.{BoxHeader}
use Rattle.hls_boxes.specs.Kinds.{moov_type, moof_type, mdat_type, unit_limit}
use Rattle.hls_boxes.specs.Boxes.{header_at, Child, child_of, children}
use Rattle.hls_boxes.proofs.Callers.{header_at-append, header_at-within}
use Rattle.hls_media_laws.specs.InitData.{InitData}
use Rattle.hls_media_laws.specs.Layout.{Layout, layout_of, layout_of_boxes, with_mdat, last_box, size_of_box}
use Rattle.hls_media_laws.specs.UnitFacts.{facts, facts_with, context_of_layout, trafs_in}
use Rattle.hls_journal_laws.specs.Heads.{IsHead, HeadsDetermineFacts}
use Rattle.hls_journal_laws.proofs.Boxes.{IsBox}
use Rattle.hls_journal_laws.proofs.Joined.{children_joined, children_one}

-- two `mdat` boxes with the same header, and contents of the same length
record AreAlike (c d : Child) : Type 0 where
  kind : c.kind ≡ d.kind
  head : c.head ≡ d.head
  long : length c.content ≡ length d.content
  is_mdat : (d.kind == mdat_type) ≡ true

-- after a `moof`, two such `mdat` boxes as the last box make the same layout
last_alike : (moof : List ℕ) (at : ℕ) (c d : Child) → AreAlike c d → last_box moof at c [] ≡ last_box moof at d []
last_alike moof at c d same = rw (same.head, same.long) refl

-- after a `moof` and other boxes, two such `mdat` boxes as the last box make the same layout
with_mdat_alike : (moof : List ℕ) (at : ℕ) (bs : List Child) (c d : Child) → AreAlike c d → with_mdat moof at (bs ++ c ∷ []) ≡ with_mdat moof at (bs ++ d ∷ [])
with_mdat_alike moof at [] c d same = rw (same.kind, same.is_mdat) (last_alike moof at c d same)
with_mdat_alike moof at (b ∷ []) c d same =
    elim (cases_Bool (b.kind == mdat_type)) [
      | inl e ↦ rw e refl
      | inr f ↦ rw f (ap (λ (o : Option Layout). cond (b.kind == moof_type || b.kind == moov_type) None o) (with_mdat_alike moof (at + size_of_box b) [] c d same))
    ]
with_mdat_alike moof at (b ∷ e ∷ bs) c d same =
    elim (cases_Bool (b.kind == mdat_type)) [
      | inl e ↦ rw e refl
      | inr f ↦ rw f (ap (λ (o : Option Layout). cond (b.kind == moof_type || b.kind == moov_type) None o) (with_mdat_alike moof (at + size_of_box b) (e ∷ bs) c d same))
    ]

-- after any boxes, two such `mdat` boxes as the last box make the same layout
layout_alike : (bs : List Child) (c d : Child) → AreAlike c d → layout_of_boxes (bs ++ c ∷ []) ≡ layout_of_boxes (bs ++ d ∷ [])
layout_alike [] c d same =
    let is : d.kind ≡ mdat_type = eqb-true d.kind mdat_type same.is_mdat in
    rw (same.kind, is) refl
layout_alike (b ∷ bs) c d same =
    elim (cases_Bool (b.kind == moof_type)) [
      | inl e ↦ rw e (with_mdat_alike b.content (size_of_box b) bs c d same)
      | inr f ↦ rw f (ap (λ (o : Option Layout). cond (b.kind == mdat_type || b.kind == moov_type) None o) (layout_alike bs c d same))
    ]

-- a head and a content of the length that it says are the boxes before the `mdat`, and the `mdat`
boxes_of_head : (head a : List ℕ) (len : ℕ) (is : IsHead head len) → length a ≡ len → children (head ++ a) ≡ Some (is.boxes ++ child_of is.header (is.last ++ a) ∷ [])
boxes_of_head head a len is long =
    let whole : length (is.last ++ a) ≡ is.header.size = length-append is.last a ∙ ap (λ k. length is.last + k) long ∙ is.ends in
    let one : IsBox is.header (is.last ++ a) = record { header = header_at-append is.last a is.header is.begins; whole = whole } in
    ap (λ t. children (t ++ a)) is.split
    ∙ ap (λ t. children t) (append_assoc is.front is.last a)
    ∙ children_joined is.boxes is.front (is.last ++ a) (child_of is.header (is.last ++ a) ∷ []) is.filled (children_one is.header (is.last ++ a) one is.fits)

-- the content of a box has the box's length without its header's
length_content : (h : BoxHeader) (box : List ℕ) → length box ≡ h.size → length (child_of h box).content ≡ h.size - h.head
length_content h box whole = length-take-le (h.size - h.head) (drop h.head box) (omega (arith, length-drop h.head box, whole))

-- two contents of the same length make `mdat` boxes with the same header and that length
alike : (head a b : List ℕ) (is : IsHead head (length a)) → length b ≡ length a → AreAlike (child_of is.header (is.last ++ b)) (child_of is.header (is.last ++ a))
alike head a b is long =
    let whole_a : length (is.last ++ a) ≡ is.header.size = length-append is.last a ∙ is.ends in
    let whole_b : length (is.last ++ b) ≡ is.header.size = length-append is.last b ∙ ap (λ k. length is.last + k) long ∙ is.ends in
    record {
      kind = refl;
      head = refl;
      long = length_content is.header (is.last ++ b) whole_b ∙ sym (length_content is.header (is.last ++ a) whole_a);
      is_mdat = is.is_mdat;
    }

-- whatever content of the same length follows a head, the layout is the same
same_layout : (head a b : List ℕ) → IsHead head (length a) → length b ≡ length a → layout_of (head ++ b) ≡ layout_of (head ++ a)
unfolding layout_of
same_layout head a b is long =
    let len : length (head ++ b) ≡ length (head ++ a) = length-append head b ∙ ap (λ k. length head + k) long ∙ sym (length-append head a) in
    let boxes : option_and_then layout_of_boxes (children (head ++ b)) ≡ option_and_then layout_of_boxes (children (head ++ a)) =
    ap (λ o. option_and_then layout_of_boxes o) (boxes_of_head head b (length a) is long)
    ∙ layout_alike is.boxes (child_of is.header (is.last ++ b)) (child_of is.header (is.last ++ a)) (alike head a b is long)
    ∙ ap (λ o. option_and_then layout_of_boxes o) (sym (boxes_of_head head a (length a) is refl)) in
    ap (λ k. cond (nat_lt unit_limit k) None (option_and_then layout_of_boxes (children (head ++ b)))) len
    ∙ ap (λ o. cond (nat_lt unit_limit (length (head ++ a))) None o) boxes

-- whatever content of the same length follows a head, the facts are the same
pub heads-determine-facts : HeadsDetermineFacts
unfolding facts
heads-determine-facts init head a b is long =
    let len : length (head ++ b) ≡ length (head ++ a) = length-append head b ∙ ap (λ k. length head + k) long ∙ sym (length-append head a) in
    ap (λ (l : Option Layout). facts_with (context_of_layout init l) (length (head ++ b)) (trafs_in l)) (same_layout head a b is long)
    ∙ ap (λ k. facts_with (context_of_layout init (layout_of (head ++ a))) k (trafs_in (layout_of (head ++ a)))) len
