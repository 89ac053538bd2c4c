-- The boxes of one type among those that fill a text (ISO/IEC 14496-12 4.2), and bits of a text.
use Rattle.std.specs.Prelude.{ℕ, zero, suc, ◌+◌, ◌*◌, ◌-◌, ◌/◌, ◌%◌, ◌^◌, Option, option_and_then, List, slice_get, slice_index_or}
use Rattle.hls_boxes.specs.Boxes.{Child, children, contents_of_type}

-- the content of box n of a type, from 0; None if there is no such box, or no boxes fill the text
unfoldable pub box_in : ℕ → ℕ → List ℕ → Option (List ℕ)
box_in kind n bytes = option_and_then (λ (boxes : List Child). slice_get (contents_of_type kind boxes) n) (children bytes)

-- a byte; one after the end is 0
abbrev pub byte_at : ℕ → List ℕ → ℕ
byte_at i bytes = slice_index_or bytes i 0

-- a bit, counted from the first byte's highest; one after the end is 0
abbrev pub bit_at : ℕ → List ℕ → ℕ
bit_at at bytes = byte_at (at / 8) bytes / 2 ^ (7 - at % 8) % 2

-- the number in n bits from one on
unfoldable pub bits_at : ℕ → ℕ → List ℕ → ℕ
bits_at zero at bytes = 0
bits_at (suc n) at bytes = bit_at at bytes * 2 ^ n + bits_at n (suc at) bytes
