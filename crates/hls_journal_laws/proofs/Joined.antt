-- The boxes that fill two texts, one after the other.
use Rattle.std.proofs.Common.{◌≡◌, ◌∙◌, ℕ, ◌≤◌, Some, List, [], ◌∷◌, ◌++◌, length, sym, ap, arith, append_assoc}
use Rattle.std.proofs.lemmas.List.{append-nil}
use Rattle.hls_boxes.specs.declared.box_header.BoxHeader.{BoxHeader}
use Rattle.hls_boxes.specs.Boxes.{Child, child_of, children}
use Rattle.hls_boxes.proofs.Callers.{children-empty}
use Rattle.hls_journal_laws.proofs.Boxes.{IsBox, first_of, children_cons, no_children, child_stays}

-- a text that is filled by boxes and one that is filled by others make one that is filled by all of them
pub children_joined : (boxes : List Child) (front z : List ℕ) (more : List Child) → children front ≡ Some boxes → children z ≡ Some more → children (front ++ z) ≡ Some (boxes ++ more)
children_joined [] front z more filled rest =
    let empty : front ≡ [] = no_children front filled in
    ap (λ t. children (t ++ z)) empty ∙ rest
children_joined (b ∷ boxes) front z more filled rest =
    let one = first_of front b boxes filled in
    let behind : children (one.behind ++ z) ≡ Some (boxes ++ more) = children_joined boxes one.behind z more one.filled rest in
    let whole : one.header.size ≤ length one.box = omega (arith, one.one.whole) in
    let here : child_of one.header (one.box ++ (one.behind ++ z)) ≡ b = child_stays one.header one.box (one.behind ++ z) one.fits whole ∙ one.child in
    ap (λ t. children (t ++ z)) one.split
    ∙ ap (λ t. children t) (append_assoc one.box one.behind z)
    ∙ children_cons one.header one.box (one.behind ++ z) (boxes ++ more) one.one one.fits behind
    ∙ ap (λ c. Some (c ∷ (boxes ++ more))) here

-- a text that is exactly one box is filled by that box
pub children_one : (h : BoxHeader) (box : List ℕ) → IsBox h box → h.head ≤ h.size → children box ≡ Some (child_of h box ∷ [])
children_one h box one fits =
    let plain : box ++ [] ≡ box = append-nil box in
    ap (λ t. children t) (sym plain) ∙ children_cons h box [] [] one fits children-empty ∙ ap (λ t. Some (child_of h t ∷ [])) plain
