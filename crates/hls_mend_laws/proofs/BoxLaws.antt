-- Boxes that were written are found.
use Rattle.std.proofs.Common.{◌≡◌, ◌∙◌, ℕ, ◌+◌, ◌-◌, ◌^◌, ◌<◌, ◌≤◌, ◌==◌, false, Some, List, [], ◌∷◌, ◌++◌, length, drop, map, refl, arith, length-append}
use Rattle.std.specs.Prelude.{All, slice_range}
use Rattle.std.specs.Int.{w32}
use Rattle.std.proofs.lemmas.Bool.{ne_eqb, le-ltb}
use Rattle.std.proofs.lemmas.List.{take_at, drop_at}
use Rattle.std.proofs.lemmas.List.Elements.{All-head, All-tail}
use Rattle.hls_boxes.specs.declared.box_header.BoxHeader.{BoxHeader}
use Rattle.hls_boxes.specs.Boxes.{number_at, header_at, box_at, Child, children}
use Rattle.hls_boxes.proofs.Callers.{children-empty, children-step}
use Rattle.hls_mend_laws.specs.Bytes.{words, box_header, Box, box_bytes, boxes_bytes}
use Rattle.hls_mend_laws.proofs.Words.{word-at}

-- a written box is 8 bytes longer than its content
pub box-len : (b : Box) → length (box_bytes b) ≡ 8 + length b.content
unfolding box_bytes
box-len b = length-append (box_header b.kind (length b.content)) b.content

-- written boxes are as long as the first box and the others together
pub boxes-len : (b : Box) (bs : List Box) → length (boxes_bytes (b ∷ bs)) ≡ 8 + length b.content + length (boxes_bytes bs)
boxes-len b bs = omega (arith, length-append (box_bytes b) (boxes_bytes bs), box-len b)

-- a box whose type and whose length, with its header, fit 32 bits
pub record IsSmallBox (b : Box) : Type 0 where
  pub kind : b.kind < 2 ^ 32
  pub len : 8 + length b.content < 2 ^ 32

-- the header that is read of a written box
abbrev pub header_of : Box → BoxHeader
header_of b = record { kind = b.kind; head = 8; size = 8 + length b.content }

-- a written box as its parent's reader finds it: with a header of 8 bytes
abbrev pub child : Box → Child
child b = record { kind = b.kind; head = 8; content = b.content }

-- a header whose size is at least its own length, and within the bytes, is that of a complete box
pub whole-box : (bytes : List ℕ) (h : BoxHeader) → header_at bytes ≡ Some h → h.head ≤ h.size → h.size ≤ length bytes → box_at bytes ≡ Some h
unfolding box_at
whole-box bytes h is fits within = rw (is, le-ltb h.size h.head fits, le-ltb (length bytes) h.size within) refl

-- the header of a small box is read as it was written, whatever follows the box
header-read : (b : Box) (rest : List ℕ) → IsSmallBox b → 8 ≤ length (box_bytes b ++ rest) → header_at (box_bytes b ++ rest) ≡ Some (header_of b)
unfolding header_at box_bytes
header-read b rest small long =
    let size : number_at w32 0 (box_bytes b ++ rest) ≡ 8 + length b.content = word-at [] (8 + length b.content) (words (b.kind ∷ []) ++ (b.content ++ rest)) 0 refl small.len in
    let kind : number_at w32 4 (box_bytes b ++ rest) ≡ b.kind = word-at ((8 + length b.content) ∷ []) b.kind (b.content ++ rest) 4 refl small.kind in
    let short : (8 + length b.content == 1) ≡ false = ne_eqb (8 + length b.content) 1 (λ e. omega (arith, e)) in
    rw (le-ltb (length (box_bytes b ++ rest)) 8 long, size, short, kind) refl

-- a small box that was written is found, complete, whatever follows it
pub box-read : (b : Box) (rest : List ℕ) → IsSmallBox b → box_at (box_bytes b ++ rest) ≡ Some (header_of b)
box-read b rest small =
    let len : length (box_bytes b ++ rest) ≡ 8 + length b.content + length rest = omega (arith, box-len b, length-append (box_bytes b) rest) in
    whole-box (box_bytes b ++ rest) (header_of b) (header-read b rest small (omega (arith, len))) (omega arith) (omega (arith, len))

-- the bytes after the header of a written box are its content
pub content-read : (b : Box) (rest : List ℕ) → slice_range (box_bytes b ++ rest) 8 (8 + length b.content) ≡ b.content
unfolding box_bytes
content-read b rest = take_at b.content rest ((8 + length b.content) - 8) (omega arith)

-- the bytes after a written box are those that follow it
pub rest-read : (b : Box) (rest : List ℕ) → drop (8 + length b.content) (box_bytes b ++ rest) ≡ rest
rest-read b rest = drop_at (box_bytes b) rest (8 + length b.content) (box-len b)

-- the children of written small boxes are these boxes
pub boxes-read : (bs : List Box) → All IsSmallBox bs → children (boxes_bytes bs) ≡ Some (map child bs)
boxes-read [] small = children-empty
boxes-read (b ∷ bs) small =
    let own = All-head IsSmallBox b bs small in
    let others : children (boxes_bytes bs) ≡ Some (map child bs) = boxes-read bs (All-tail IsSmallBox b bs small) in
    let some : 0 < length (boxes_bytes (b ∷ bs)) = omega (arith, boxes-len b bs) in
    children-step (boxes_bytes (b ∷ bs)) some
    ∙ rw (box-read b (boxes_bytes bs) own, rest-read b (boxes_bytes bs), others, content-read b (boxes_bytes bs)) refl
