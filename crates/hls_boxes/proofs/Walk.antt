-- The boxes that fill a text, one at a time.
use Rattle.std.proofs.Common.{◌≡◌, ℕ, zero, suc, ◌<◌, ◌≤◌, Option, Some, None, List, [], ◌∷◌, ◌++◌, length, take, drop, option_map, sym, ◌∙◌, ap, inl, inr, arith, refl}
use Rattle.std.proofs.lemmas.List.{length-drop, length-append, length-take-le, take-append-drop, drop_at}
use Rattle.std.proofs.lemmas.Bool.{cases_lt, lt-ltb, le-ltb}
use Rattle.hls_boxes.specs.declared.box_header.BoxHeader.{BoxHeader}
use Rattle.hls_boxes.specs.Boxes.{header_at, box_at, whole_box_header, Child, child_of, children, children_after_header, children_within, IsWithin}
use Rattle.hls_boxes.proofs.Headers.{IsBox, header_at-append, header_at-front, header_at-within}

-- the header of a complete box is the one that was read, and the box has at least the header's and at most `len` bytes
if_whole-some : (len : ℕ) (o : Option BoxHeader) (h : BoxHeader) → whole_box_header len o ≡ Some h → (o ≡ Some h) × (h.head ≤ h.size) × (h.size ≤ len)
if_whole-some len None h is = absurd (cc)
if_whole-some len (Some k) h is =
    elim (cases_lt k.size k.head) [
      | inl low ↦
          let none : None ≡ Some h = rw (lt-ltb k.size k.head low) at is in
          absurd (cc)
      | inr fits ↦ elim (cases_lt len k.size) [
        | inl past ↦
            let none : None ≡ Some h = rw (le-ltb k.size k.head fits, lt-ltb len k.size past) at is in
            absurd (cc)
        | inr within ↦
            let some : Some k ≡ Some h = rw (le-ltb k.size k.head fits, le-ltb len k.size within) at is in
            let same : k ≡ h = cc in
            let size : k.size ≡ h.size = ap (λ (k : BoxHeader). k.size) same in
            let head : k.head ≡ h.head = ap (λ (k : BoxHeader). k.head) same in
            (some, omega arith, omega arith)
      ]
    ]

-- the header of a complete box is the header at the start
pub box_at-header : (bytes : List ℕ) (h : BoxHeader) → box_at bytes ≡ Some h → header_at bytes ≡ Some h
unfolding box_at
box_at-header bytes h is = (if_whole-some (length bytes) (header_at bytes) h is).0

-- a complete box is within its text, and its header within the box
pub box_at-within : (bytes : List ℕ) (h : BoxHeader) → box_at bytes ≡ Some h → IsWithin (length bytes) h
unfolding box_at
box_at-within bytes h is =
    let whole = if_whole-some (length bytes) (header_at bytes) h is in
    (whole.1, whole.2, (header_at-within bytes h whole.0).0)

-- a header whose box is within the text is that of a complete box
pub header-box_at : (bytes : List ℕ) (h : BoxHeader) → header_at bytes ≡ Some h → h.head ≤ h.size → h.size ≤ length bytes → box_at bytes ≡ Some h
unfolding box_at
header-box_at bytes h is fits within = rw (is, le-ltb h.size h.head fits, le-ltb (length bytes) h.size within) refl

-- two ways to find boxes give the same boxes after a header, if they agree on the rest
children_by-same : (f g : List ℕ → Option (List Child)) (bytes : List ℕ) (o : Option BoxHeader) → ((h : BoxHeader) → o ≡ Some h → f (drop h.size bytes) ≡ g (drop h.size bytes)) → children_after_header f bytes o ≡ children_after_header g bytes o
children_by-same f g bytes None same = refl
children_by-same f g bytes (Some h) same = rw (same h refl) refl

-- one step for each byte is enough
children_within_enough : (most bound : ℕ) (bytes : List ℕ) → length bytes < most → length bytes < bound → children_within most bytes ≡ children_within bound bytes
unfolding children_within
children_within_enough zero bound bytes less more = absurd (omega arith)
children_within_enough (suc most) zero bytes less more = absurd (omega arith)
children_within_enough (suc most) (suc bound) [] less more = refl
children_within_enough (suc most) (suc bound) (b ∷ bytes) less more =
    children_by-same (children_within most) (children_within bound) (b ∷ bytes) (box_at (b ∷ bytes)) (λ h is.
    let within : IsWithin (length (b ∷ bytes)) h = box_at-within (b ∷ bytes) h is in
    let shorter : length (drop h.size (b ∷ bytes)) < length (b ∷ bytes) = omega (arith, length-drop h.size (b ∷ bytes)) in
    children_within_enough most bound (drop h.size (b ∷ bytes)) (omega arith) (omega arith))

-- the empty text is filled by no boxes
pub children-empty : children [] ≡ Some []
unfolding children children_within
children-empty = refl

-- the boxes that fill a text are its first box, followed by those that fill the rest
pub children-step : (bytes : List ℕ) → 0 < length bytes → children bytes ≡ children_after_header children bytes (box_at bytes)
unfolding children children_within
children-step [] some = absurd (omega arith)
children-step (b ∷ bytes) some =
    children_by-same (children_within (length (b ∷ bytes))) children (b ∷ bytes) (box_at (b ∷ bytes)) (λ h is.
    let within : IsWithin (length (b ∷ bytes)) h = box_at-within (b ∷ bytes) h is in
    let shorter : length (drop h.size (b ∷ bytes)) < length (b ∷ bytes) = omega (arith, length-drop h.size (b ∷ bytes)) in
    children_within_enough (length (b ∷ bytes)) (suc (length (drop h.size (b ∷ bytes)))) (drop h.size (b ∷ bytes)) shorter (omega arith))

-- a complete box before bytes that boxes fill is the first of the boxes that fill both
pub children-box : (h : BoxHeader) (box behind : List ℕ) (boxes : List Child) → IsBox h box → h.head ≤ h.size → children behind ≡ Some boxes
    → children (box ++ behind) ≡ Some (child_of h (box ++ behind) ∷ boxes)
children-box h box behind boxes one fits filled =
    let wide = header_at-within box h one.header in
    let long : h.size ≤ length (box ++ behind) = omega (arith, length-append box behind, one.whole) in
    let some : 0 < length (box ++ behind) = omega (arith, length-append box behind, wide.0, wide.1) in
    let found : box_at (box ++ behind) ≡ Some h = header-box_at (box ++ behind) h (header_at-append box behind h one.header) fits long in
    let rest : drop h.size (box ++ behind) ≡ behind = drop_at box behind h.size one.whole in
    children-step (box ++ behind) some ∙ rw (found, rest, filled) refl

-- the first of the boxes that fill a text
pub record FirstBox (text : List ℕ) (b : Child) (boxes : List Child) : Type 0 where
  pub header : BoxHeader
  pub box : List ℕ
  pub behind : List ℕ
  pub split : text ≡ box ++ behind
  pub one : IsBox header box
  pub fits : header.head ≤ header.size
  pub kind : b.kind ≡ header.kind
  pub filled : children behind ≡ Some boxes

-- a box in front of other boxes is the first of the result, and they are the rest
some_of : (c : Child) (o : Option (List Child)) (b : Child) (boxes : List Child) → option_map (λ (more : List Child). c ∷ more) o ≡ Some (b ∷ boxes) → (c ≡ b) × (o ≡ Some boxes)
some_of c None b boxes is = absurd (cc)
some_of c (Some cs) b boxes is =
    let head : c ≡ b = cc in
    let tail : cs ≡ boxes = cc in
    (head, ap Some tail)

-- boxes that fill a text are a first box and those that fill what follows it, given the header of a complete box
first_box_by : (text : List ℕ) (b : Child) (boxes : List Child) (o : Option BoxHeader) → box_at text ≡ o → children_after_header children text o ≡ Some (b ∷ boxes) → FirstBox text b boxes
first_box_by text b boxes None found is = absurd (cc)
first_box_by text b boxes (Some h) found is =
    let within : IsWithin (length text) h = box_at-within text h found in
    let split : take h.size text ++ drop h.size text ≡ text = take-append-drop h.size text in
    let whole : length (take h.size text) ≡ h.size = length-take-le h.size text within.1 in
    let header : header_at (take h.size text ++ drop h.size text) ≡ Some h = rw split (box_at-header text h found) in
    let more = some_of (child_of h text) (children (drop h.size text)) b boxes is in
    record {
      header = h;
      box = take h.size text;
      behind = drop h.size text;
      split = sym split;
      one = record { header = header_at-front (take h.size text) (drop h.size text) h header (omega arith); whole = whole };
      fits = within.0;
      kind = sym (ap (λ (c : Child). c.kind) more.0);
      filled = more.1;
    }

-- boxes that fill a text are a first box and those that fill what follows it
pub first_box : (text : List ℕ) (b : Child) (boxes : List Child) → children text ≡ Some (b ∷ boxes) → FirstBox text b boxes
first_box [] b boxes is = let none : Some [] ≡ Some (b ∷ boxes) = sym children-empty ∙ is in absurd (cc)
first_box (x ∷ text) b boxes is =
    first_box_by (x ∷ text) b boxes (box_at (x ∷ text)) refl (sym (children-step (x ∷ text) (omega arith)) ∙ is)

-- a box in front of other boxes doesn't give an empty list
some-box : (c : Child) (o : Option (List Child)) → option_map (λ (more : List Child). c ∷ more) o ≡ Some [] → ⊥
some-box c None is = absurd (cc)
some-box c (Some cs) is = absurd (cc)

-- if a text is filled by no boxes, it is empty, given the header of a complete box, if there is one
no_box : (text : List ℕ) (o : Option BoxHeader) → children_after_header children text o ≡ Some [] → text ≡ []
no_box text None is = absurd (cc)
no_box text (Some h) is = absurd (some-box (child_of h text) (children (drop h.size text)) is)

-- if a text is filled by no boxes, it is empty
pub children-none : (text : List ℕ) → children text ≡ Some [] → text ≡ []
children-none [] is = refl
children-none (x ∷ text) is = no_box (x ∷ text) (box_at (x ∷ text)) (sym (children-step (x ∷ text) (omega arith)) ∙ is)
