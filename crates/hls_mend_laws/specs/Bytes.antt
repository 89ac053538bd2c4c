-- The bytes of numbers and of boxes.
use Rattle.std.specs.Prelude.{ℕ, ◌+◌, List, [], ◌∷◌, ◌++◌, length}
use Rattle.std.specs.List.{flat_map}
use Rattle.std.specs.Int.{to_be_bytes, w32}

-- 32-bit numbers, one after another, each with its highest byte first
abbrev pub words : List ℕ → List ℕ
words ns = flat_map (to_be_bytes w32) ns

-- the header of a box whose content has this length (ISO/IEC 14496-12 4.2)
abbrev pub box_header : ℕ → ℕ → List ℕ
box_header kind len = words ((8 + len) ∷ kind ∷ [])

-- a box before it is written: its type and its content
pub record Box : Type 0 where
  pub kind : ℕ
  pub content : List ℕ

-- the bytes of a box: its header and then its content
unfoldable pub box_bytes : Box → List ℕ
box_bytes b = box_header b.kind (length b.content) ++ b.content

-- the bytes of boxes, one after another
abbrev pub boxes_bytes : List Box → List ℕ
boxes_bytes bs = flat_map box_bytes bs
