-- One box at the start of a text, and the boxes that fill a text (ISO/IEC 14496-12 4.2).
use Rattle.std.specs.Prelude.{ℕ, suc, zero, ◌≤◌, ◌==◌, nat_lt, if◌then◌else◌, ◌||◌, Option, Some, None, List, [], ◌∷◌, length, map, filter, drop, slice_range, option_map}
use Rattle.std.specs.Int.{Width, w32, w64, from_be_bytes}
use Rattle.hls_boxes.specs.declared.box_header.BoxHeader.{BoxHeader}

-- the big-endian number whose first byte is the one at `at`; bytes after the end count as 0
unfoldable pub number_at : Width → ℕ → List ℕ → ℕ
number_at w at bytes = from_be_bytes w (drop at bytes)

-- a header whose size is its first 32 bits
abbrev pub short_header : List ℕ → BoxHeader
short_header bytes = record { kind = number_at w32 4 bytes; head = 8; size = number_at w32 0 bytes }

-- a header whose size is the 64 bits after its type
abbrev pub long_header : List ℕ → BoxHeader
long_header bytes = record { kind = number_at w32 4 bytes; head = 16; size = number_at w64 8 bytes }

-- the header at the start of the bytes, or None if it isn't complete: for a size of 1 it is long, otherwise it is short
unfoldable pub header_at : List ℕ → Option BoxHeader
header_at bytes =
    if nat_lt (length bytes) 8 then None
    else (if number_at w32 0 bytes == 1
    then (if nat_lt (length bytes) 16 then None else Some (long_header bytes))
    else Some (short_header bytes))

-- the header of a box of at most `len` bytes, including the header
abbrev pub whole_box_header : ℕ → Option BoxHeader → Option BoxHeader
whole_box_header len None = None
whole_box_header len (Some h) = if nat_lt h.size h.head || nat_lt len h.size then None else Some h

-- the header of the complete box at the start of the bytes
unfoldable pub box_at : List ℕ → Option BoxHeader
box_at bytes = whole_box_header (length bytes) (header_at bytes)

-- a box: its type, the length of its header and its content
pub record Child : Type 0 where
  pub kind : ℕ
  pub head : ℕ
  pub content : List ℕ

-- the box with this header at the start of the bytes
abbrev pub child_of : BoxHeader → List ℕ → Child
child_of h bytes = record { kind = h.kind; head = h.head; content = slice_range bytes h.head h.size }

-- the box with this header and then the boxes that `others` finds in the rest, or None without a header
abbrev pub children_after_header : (List ℕ → Option (List Child)) → List ℕ → Option BoxHeader → Option (List Child)
children_after_header others bytes None = None
children_after_header others bytes (Some h) = option_map (λ more. child_of h bytes ∷ more) (others (drop h.size bytes))

-- the boxes that fill the bytes, in order, if they are fewer than `most`, otherwise None
unfoldable pub children_within : ℕ → List ℕ → Option (List Child)
children_within zero bytes = None
children_within (suc most) [] = Some []
children_within (suc most) (b ∷ bytes) = children_after_header (children_within most) (b ∷ bytes) (box_at (b ∷ bytes))

-- the boxes that fill the bytes, in order, or None if no boxes do
unfoldable pub children : List ℕ → Option (List Child)
children bytes = children_within (suc (length bytes)) bytes

-- the contents of the boxes of a type
abbrev pub contents_of_type : ℕ → List Child → List (List ℕ)
contents_of_type kind boxes = map (λ (b : Child). b.content) (filter (λ (b : Child). b.kind == kind) boxes)

-- the types of the boxes
abbrev pub kinds_of : List Child → List ℕ
kinds_of boxes = map (λ (b : Child). b.kind) boxes

-- a box that fits in `len` bytes, including its header
abbrev pub IsWithin : ℕ → BoxHeader → Type 0
IsWithin len h = (h.head ≤ h.size) × (h.size ≤ len) × (8 ≤ h.head)
