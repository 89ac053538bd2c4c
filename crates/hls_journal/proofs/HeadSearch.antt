-- The search for the end of a unit's head.
use Rattle.std.proofs.Common.{◌≡◌, ◌∙◌, ℕ, ◌+◌, ◌-◌, ◌≤◌, ◌==◌, true, Some, List, [], ◌∷◌, ◌++◌, length, take, drop, sym, ap, arith}
use Rattle.std.proofs.lemmas.List.{length-take-le, length-drop, take-append-drop}
use Rattle.std.proofs.Math.Seq.{take-add}
use Rattle.hls_boxes.specs.declared.box_header.BoxHeader.{BoxHeader}
use Rattle.hls_boxes.specs.Kinds.{mdat_type}
use Rattle.hls_boxes.specs.Boxes.{header_at, Child, child_of, children}
use Rattle.hls_boxes.proofs.Callers.{header_at-front, children-empty}
use Rattle.hls_journal_laws.specs.Heads.{IsHead}
use Rattle.hls_journal_laws.proofs.Boxes.{IsBox}
use Rattle.hls_journal_laws.proofs.Joined.{children_joined, children_one}

-- the bytes of a unit before this place are whole boxes
pub record AreBoxes (unit : List ℕ) (at : ℕ) : Type 0 where
  pub boxes : List Child
  pub filled : children (take at unit) ≡ Some boxes
  pub within : at ≤ length unit

-- before the start of a unit there are no boxes
pub no_boxes : (unit : List ℕ) → AreBoxes unit 0
no_boxes unit = record { boxes = []; filled = children-empty; within = omega arith }

-- the header at the start of a text is read from its first bytes, if these contain the header
first_box : (rest : List ℕ) (h : BoxHeader) (n : ℕ) → header_at rest ≡ Some h → h.head ≤ n → n ≤ length rest → header_at (take n rest) ≡ Some h
first_box rest h n is fits within =
    let all : take n rest ++ drop n rest ≡ rest = take-append-drop n rest in
    let len : length (take n rest) ≡ n = length-take-le n rest within in
    header_at-front (take n rest) (drop n rest) h (ap (λ t. header_at t) all ∙ is) (omega (arith, len, fits))

-- if whole boxes precede a box that fits in the unit, whole boxes precede its end
pub one_more_box : (unit : List ℕ) (at size : ℕ) (h : BoxHeader) → AreBoxes unit at → header_at (drop at unit) ≡ Some h → h.size ≡ size → h.head ≤ size → size ≤ length (drop at unit) → AreBoxes unit (at + size)
one_more_box unit at size h so_far is size_is fits within =
    let len : length (take size (drop at unit)) ≡ size = length-take-le size (drop at unit) within in
    let one : IsBox h (take size (drop at unit)) = record { header = first_box (drop at unit) h size is fits within; whole = len ∙ sym size_is } in
    let split : take (at + size) unit ≡ take at unit ++ take size (drop at unit) = take-add at size unit in
    record {
      boxes = so_far.boxes ++ child_of h (take size (drop at unit)) ∷ [];
      filled = ap (λ t. children t) split
          ∙ children_joined so_far.boxes (take at unit) (take size (drop at unit)) (child_of h (take size (drop at unit)) ∷ []) so_far.filled (children_one h (take size (drop at unit)) one (omega (arith, fits, size_is)));
      within = omega (arith, within, length-drop at unit, so_far.within);
    }

-- if whole boxes precede the header of an `mdat` that ends the unit, the bytes up to the header's end are the unit's head
pub head_found : (unit : List ℕ) (at head : ℕ) (h : BoxHeader) → AreBoxes unit at → header_at (drop at unit) ≡ Some h → h.head ≡ head → (h.kind == mdat_type) ≡ true → head ≤ h.size → h.size ≡ length (drop at unit)
    → (at + head ≤ length unit) × IsHead (take (at + head) unit) (length unit - (at + head))
head_found unit at head h so_far is head_is kind fits whole =
    let rest_len = length-drop at unit in
    let len : length (take head (drop at unit)) ≡ head = length-take-le head (drop at unit) (omega (arith, fits, whole)) in (
      omega (arith, fits, whole, rest_len, so_far.within),
      record {
        front = take at unit;
        boxes = so_far.boxes;
        last = take head (drop at unit);
        header = h;
        split = take-add at head unit;
        filled = so_far.filled;
        begins = first_box (drop at unit) h head is (omega (arith, head_is)) (omega (arith, fits, whole));
        is_mdat = kind;
        fits = omega (arith, fits, head_is);
        ends = omega (arith, len, whole, fits, rest_len, so_far.within);
      },
    )
