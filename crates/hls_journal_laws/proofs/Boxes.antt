-- Complete boxes, and the first of the boxes that fill a text.
use Rattle.std.proofs.Common.{◌≡◌, ◌∙◌, ℕ, zero, suc, ◌+◌, ◌-◌, ◌<◌, ◌≤◌, Option, Some, None, List, [], ◌∷◌, ◌++◌, length, take, drop, option_map, refl, sym, ap, inl, inr, arith, length-append}
use Rattle.std.proofs.lemmas.List.{length-drop, length-take-le, take-append-drop, take-append-le, drop-append-le, drop_at}
use Rattle.std.proofs.lemmas.Bool.{cases_lt, lt-ltb, le-ltb}
use Rattle.hls_boxes.specs.declared.box_header.BoxHeader.{BoxHeader}
use Rattle.hls_boxes.specs.Boxes.{header_at, box_at, whole_box_header, Child, child_of, children, children_after_header, IsWithin}
use Rattle.hls_boxes.proofs.Callers.{header_at-append, header_at-front, header_at-within, children-empty, children-step}

-- a text that is exactly the box of its header
pub record IsBox (h : BoxHeader) (box : List ℕ) : Type 0 where
  pub header : header_at box ≡ Some h
  pub whole : length box ≡ h.size

-- if a header is that of a whole box, the box is no shorter than its header and no longer than the text
whole_header : (len : ℕ) (o : Option BoxHeader) (h : BoxHeader) → whole_box_header len o ≡ Some h → (o ≡ Some h) × (h.head ≤ h.size) × (h.size ≤ len)
whole_header len None h is = absurd (cc)
whole_header len (Some k) h is =
    elim (cases_lt k.size k.head) [
      | inl low ↦ let none : None ≡ Some h = rw (lt-ltb k.size k.head low) at is in absurd (cc)
      | inr fits ↦ elim (cases_lt len k.size) [
        | inl past ↦ let none : None ≡ Some h = rw (le-ltb k.size k.head fits, lt-ltb len k.size past) at is in absurd (cc)
        | inr within ↦
            let some : Some k ≡ Some h = rw (le-ltb k.size k.head fits, le-ltb len k.size within) at is in
            let same : k ≡ h = cc in
            let size : k.size ≡ h.size = ap (λ (k : BoxHeader). k.size) same in
            let head : k.head ≡ h.head = ap (λ (k : BoxHeader). k.head) same in
            (some, omega arith, omega arith)
      ]
    ]

-- a whole box at the start of a text has a header there, is no shorter than it, and no longer than the text
header_of_box : (text : List ℕ) (h : BoxHeader) → box_at text ≡ Some h → (header_at text ≡ Some h) × (h.head ≤ h.size) × (h.size ≤ length text)
unfolding box_at
header_of_box text h is = whole_header (length text) (header_at text) h is

-- a header whose box is no shorter than it and no longer than the text is that of a whole box
box_of_header : (text : List ℕ) (h : BoxHeader) → header_at text ≡ Some h → h.head ≤ h.size → h.size ≤ length text → box_at text ≡ Some h
unfolding box_at
box_of_header text h is fits within = rw (is, le-ltb h.size h.head fits, le-ltb (length text) h.size within) refl

-- a box before a text that is filled by boxes makes a text that is filled by all of them
pub children_cons : (h : BoxHeader) (box behind : List ℕ) (boxes : List Child) → IsBox h box → h.head ≤ h.size → children behind ≡ Some boxes
    → children (box ++ behind) ≡ Some (child_of h (box ++ behind) ∷ boxes)
children_cons h box behind boxes one fits filled =
    let wide = header_at-within box h one.header in
    let long : h.size ≤ length (box ++ behind) = omega (arith, length-append box behind, one.whole) in
    let some : 0 < length (box ++ behind) = omega (arith, length-append box behind, wide.0, wide.1) in
    let found : box_at (box ++ behind) ≡ Some h = box_of_header (box ++ behind) h (header_at-append box behind h one.header) fits long in
    let rest : drop h.size (box ++ behind) ≡ behind = drop_at box behind h.size one.whole in
    children-step (box ++ behind) some ∙ rw (found, rest, filled) refl

-- a list that begins with a box isn't empty
some_more : (c : Child) (o : Option (List Child)) → option_map (λ (more : List Child). c ∷ more) o ≡ Some [] → ⊥
some_more c None is = absurd (cc)
some_more c (Some cs) is = absurd (cc)

-- if the boxes of a text are none, there is no byte
no_box : (text : List ℕ) (o : Option BoxHeader) → children_after_header children text o ≡ Some [] → text ≡ []
no_box text None is = absurd (cc)
no_box text (Some h) is = absurd (some_more (child_of h text) (children (drop h.size text)) is)

-- a text that is filled by no boxes is empty
pub no_children : (text : List ℕ) → children text ≡ Some [] → text ≡ []
no_children [] is = refl
no_children (x ∷ text) is = no_box (x ∷ text) (box_at (x ∷ text)) (sym (children-step (x ∷ text) (omega arith)) ∙ is)

-- a complete box doesn't change when bytes follow
pub child_stays : (h : BoxHeader) (box z : List ℕ) → h.head ≤ h.size → h.size ≤ length box → child_of h (box ++ z) ≡ child_of h box
child_stays h box z fits within =
    let low : h.head ≤ length box = omega (arith, fits, within) in
    let room : h.size - h.head ≤ length (drop h.head box) = omega (arith, length-drop h.head box, within) in
    ap (λ xs. record { kind = h.kind; head = h.head; content = xs })
    (ap (λ xs. take (h.size - h.head) xs) (drop-append-le h.head box z low) ∙ take-append-le (h.size - h.head) (drop h.head box) z room)

-- a text begins with the first box of a list, and the others fill the rest
pub record FirstOf (text : List ℕ) (b : Child) (boxes : List Child) : Type 0 where
  pub header : BoxHeader
  pub box : List ℕ
  pub behind : List ℕ
  pub split : text ≡ box ++ behind
  pub one : IsBox header box
  pub fits : header.head ≤ header.size
  pub filled : children behind ≡ Some boxes
  pub child : child_of header box ≡ b

-- a box before others makes the list of both
some_of : (c : Child) (o : Option (List Child)) (b : Child) (boxes : List Child) → option_map (λ (more : List Child). c ∷ more) o ≡ Some (b ∷ boxes) → (c ≡ b) × (o ≡ Some boxes)
some_of c None b boxes is = absurd (cc)
some_of c (Some cs) b boxes is =
    let head : c ≡ b = cc in
    let tail : cs ≡ boxes = cc in
    (head, ap Some tail)

-- a text that is filled by boxes begins with the first of them, whose header is at its start
first_by : (text : List ℕ) (b : Child) (boxes : List Child) (o : Option BoxHeader) → box_at text ≡ o → children_after_header children text o ≡ Some (b ∷ boxes) → FirstOf text b boxes
first_by text b boxes None found is = absurd (cc)
first_by text b boxes (Some h) found is =
    let read = header_of_box text h found in
    let split : take h.size text ++ drop h.size text ≡ text = take-append-drop h.size text in
    let whole : length (take h.size text) ≡ h.size = length-take-le h.size text read.2 in
    let header : header_at (take h.size text ++ drop h.size text) ≡ Some h = rw split read.0 in
    let more = some_of (child_of h text) (children (drop h.size text)) b boxes is in
    record {
      header = h;
      box = take h.size text;
      behind = drop h.size text;
      split = sym split;
      one = record { header = header_at-front (take h.size text) (drop h.size text) h header (omega (arith, whole, read.1)); whole = whole };
      fits = read.1;
      filled = more.1;
      child = sym (child_stays h (take h.size text) (drop h.size text) read.1 (omega (arith, whole))) ∙ ap (λ t. child_of h t) split ∙ more.0;
    }

-- a text that is filled by boxes begins with the first of them, and the others fill the rest
pub first_of : (text : List ℕ) (b : Child) (boxes : List Child) → children text ≡ Some (b ∷ boxes) → FirstOf text b boxes
first_of [] b boxes is = let none : Some [] ≡ Some (b ∷ boxes) = sym children-empty ∙ is in absurd (cc)
first_of (x ∷ text) b boxes is =
    first_by (x ∷ text) b boxes (box_at (x ∷ text)) refl (sym (children-step (x ∷ text) (omega arith)) ∙ is)
