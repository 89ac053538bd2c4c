-- Boxes of ISO/IEC 14496-12, as the bytes that a writer would send.
use Rattle.std.specs.Prelude.{ℕ, ◌+◌, List, ◌++◌, length}
use Rattle.std.specs.Int.{to_be_bytes, w32}
use Rattle.std.specs.List.{concat, flat_map}

-- a 32-bit number, big-endian
abbrev pub u32_bytes : ℕ → List ℕ
u32_bytes n = to_be_bytes w32 n

-- 32-bit numbers in sequence
abbrev pub number_bytes : List ℕ → List ℕ
number_bytes ns = flat_map u32_bytes ns

-- a box: its size, its four-letter type, and its content in pieces (4.2)
unfoldable pub box_of : List ℕ → List (List ℕ) → List ℕ
box_of kind pieces = u32_bytes (8 + length (concat pieces)) ++ kind ++ concat pieces
