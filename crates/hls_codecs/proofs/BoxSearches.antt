-- A search for a box, one box at a time.
use Rattle.std.proofs.Common.{◌≡◌, ◌≢◌, ℕ, suc, ◌-◌, ◌<◌, ◌==◌, true, false, List, [], ◌∷◌, length, drop, slice_range, slice_get, Option, Some, None, option_and_then, option_map, refl, sym, ◌∙◌, ap, arith}
use Rattle.std.specs.Prelude.{is_some}
use Rattle.std.proofs.lemmas.Bool.Decides.{nat_tests}
use Rattle.hls_boxes.specs.declared.box_header.BoxHeader.{BoxHeader}
use Rattle.hls_boxes.specs.Boxes.{Child, child_of, children, children_after_header, box_at, contents_of_type}
use Rattle.hls_boxes.proofs.Callers.{children-empty, children-step}
use Rattle.hls_codecs.specs.Boxes.{box_in}

-- the boxes that fill an empty text are none
empty-children : (bytes : List ℕ) → length bytes ≡ 0 → children bytes ≡ Some []
empty-children [] e = children-empty
empty-children (b ∷ bytes) e = absurd (omega (arith, e))

-- if no complete box is at the start of a text, no boxes fill it
no-children : (bytes : List ℕ) → 0 < length bytes → box_at bytes ≡ None → children bytes ≡ None
no-children bytes some none = children-step bytes some ∙ ap (children_after_header children bytes) none

-- if a box is at the start of a text, its boxes are this one and those that fill the rest
some-children : (bytes : List ℕ) (h : BoxHeader) → 0 < length bytes → box_at bytes ≡ Some h → children bytes ≡ option_map (λ (more : List Child). child_of h bytes ∷ more) (children (drop h.size bytes))
some-children bytes h some is_box = children-step bytes some ∙ ap (children_after_header children bytes) is_box

-- boxes fill an empty text
pub fills-end : (bytes : List ℕ) → length bytes ≡ 0 → is_some (children bytes) ≡ true
fills-end bytes e = rw (empty-children bytes e) refl

-- boxes don't fill a text at whose start no complete box is
pub fills-bad : (bytes : List ℕ) → 0 < length bytes → box_at bytes ≡ None → is_some (children bytes) ≡ false
fills-bad bytes some none = rw (no-children bytes some none) refl

-- one more box keeps whether boxes fill a text
keeps-some : (c : Child) (others : Option (List Child)) → is_some (option_map (λ (more : List Child). c ∷ more) others) ≡ is_some others
keeps-some c None = refl
keeps-some c (Some cs) = refl

-- boxes fill a text that begins with a box if they fill the rest
pub fills-next : (bytes : List ℕ) (h : BoxHeader) → 0 < length bytes → box_at bytes ≡ Some h → is_some (children (drop h.size bytes)) ≡ is_some (children bytes)
fills-next bytes h some is_box = sym (ap (λ (cs : Option (List Child)). is_some cs) (some-children bytes h some is_box) ∙ keeps-some (child_of h bytes) (children (drop h.size bytes)))

-- equal types of boxes compare as equal
same-kind : (a b : ℕ) → a ≡ b → (a == b) ≡ true
same-kind a b is = grind (arith, nat_tests)

-- different types of boxes compare as different
other-kind : (a b : ℕ) → a ≢ b → (a == b) ≡ false
other-kind a b is = grind (arith, nat_tests)

-- there is no box in an empty text
pub box-at_end : (kind n : ℕ) (bytes : List ℕ) → length bytes ≡ 0 → box_in kind n bytes ≡ None
unfolding box_in
box-at_end kind n bytes e = rw (empty-children bytes e) refl

-- there is no box in a text at whose start no complete box is
pub box-bad : (kind n : ℕ) (bytes : List ℕ) → 0 < length bytes → box_at bytes ≡ None → box_in kind n bytes ≡ None
unfolding box_in
box-bad kind n bytes some none = rw (no-children bytes some none) refl

-- a box of the type, before others that fill the rest, is box 0 of the type
finds : (kind : ℕ) (c : Child) (others : Option (List Child)) → (c.kind == kind) ≡ true → is_some others ≡ true
    → option_and_then (λ (boxes : List Child). slice_get (contents_of_type kind boxes) 0) (option_map (λ (more : List Child). c ∷ more) others) ≡ Some c.content
finds kind c None is filled = absurd (cc)
finds kind c (Some cs) is filled = rw is refl

-- if no boxes fill the rest after a box, there is no box 0 of any type
finds-bad : (kind : ℕ) (c : Child) (others : Option (List Child)) → is_some others ≡ false
    → option_and_then (λ (boxes : List Child). slice_get (contents_of_type kind boxes) 0) (option_map (λ (more : List Child). c ∷ more) others) ≡ None
finds-bad kind c None filled = refl
finds-bad kind c (Some cs) filled = absurd (cc)

-- the first box of a text is the one that is looked for if it has the type and the number is 0, and boxes fill the rest
pub box-found : (kind n : ℕ) (bytes : List ℕ) (h : BoxHeader) → 0 < length bytes → box_at bytes ≡ Some h → n ≡ 0 → h.kind ≡ kind → is_some (children (drop h.size bytes)) ≡ true
    → Some (slice_range bytes h.head h.size) ≡ box_in kind n bytes
unfolding box_in
box-found kind n bytes h some is_box first is filled =
    rw first (sym (ap (option_and_then (λ (boxes : List Child). slice_get (contents_of_type kind boxes) 0)) (some-children bytes h some is_box) ∙ finds kind (child_of h bytes) (children (drop h.size bytes)) (same-kind h.kind kind is) filled))

-- if no boxes fill the rest after the first box, there is no box 0 of any type
pub box-unfilled : (kind n : ℕ) (bytes : List ℕ) (h : BoxHeader) → 0 < length bytes → box_at bytes ≡ Some h → n ≡ 0 → is_some (children (drop h.size bytes)) ≡ false
    → None ≡ box_in kind n bytes
unfolding box_in
box-unfilled kind n bytes h some is_box first filled =
    rw first (sym (ap (option_and_then (λ (boxes : List Child). slice_get (contents_of_type kind boxes) 0)) (some-children bytes h some is_box) ∙ finds-bad kind (child_of h bytes) (children (drop h.size bytes)) filled))

-- after a box of the type, box n + 1 is box n of the others
counts : (kind left : ℕ) (c : Child) (others : Option (List Child)) → (c.kind == kind) ≡ true
    → option_and_then (λ (boxes : List Child). slice_get (contents_of_type kind boxes) (suc left)) (option_map (λ (more : List Child). c ∷ more) others) ≡ option_and_then (λ (boxes : List Child). slice_get (contents_of_type kind boxes) left) others
counts kind left c None is = refl
counts kind left c (Some cs) is = rw is refl

-- after a box of the type, box n of the type, if n isn't 0, is box n - 1 in the rest
pub box-counted : (kind n : ℕ) (bytes : List ℕ) (h : BoxHeader) → 0 < length bytes → box_at bytes ≡ Some h → 0 < n → h.kind ≡ kind
    → box_in kind (n - 1) (drop h.size bytes) ≡ box_in kind n bytes
unfolding box_in
box-counted kind n bytes h some is_box more is =
    let e : n ≡ suc (n - 1) = omega arith in
    sym (ap (λ (m : ℕ). box_in kind m bytes) e
    ∙ ap (option_and_then (λ (boxes : List Child). slice_get (contents_of_type kind boxes) (suc (n - 1)))) (some-children bytes h some is_box) ∙ counts kind (n - 1) (child_of h bytes) (children (drop h.size bytes)) (same-kind h.kind kind is))

-- after a box of another type, box n is box n of the others
passes : (kind left : ℕ) (c : Child) (others : Option (List Child)) → (c.kind == kind) ≡ false
    → option_and_then (λ (boxes : List Child). slice_get (contents_of_type kind boxes) left) (option_map (λ (more : List Child). c ∷ more) others) ≡ option_and_then (λ (boxes : List Child). slice_get (contents_of_type kind boxes) left) others
passes kind left c None is = refl
passes kind left c (Some cs) is = rw is refl

-- after a box of another type, box n of the type is box n in the rest
pub box-passed : (kind n : ℕ) (bytes : List ℕ) (h : BoxHeader) → 0 < length bytes → box_at bytes ≡ Some h → h.kind ≢ kind
    → box_in kind n (drop h.size bytes) ≡ box_in kind n bytes
unfolding box_in
box-passed kind n bytes h some is_box is =
    sym (ap (option_and_then (λ (boxes : List Child). slice_get (contents_of_type kind boxes) n)) (some-children bytes h some is_box) ∙ passes kind n (child_of h bytes) (children (drop h.size bytes)) (other-kind h.kind kind is))
