-- The head of a unit.
use Rattle.std.specs.Prelude.{◌≡◌, ℕ, ◌+◌, ◌≤◌, ◌==◌, true, Some, List, ◌++◌, length, replicate}
use Rattle.hls_boxes.specs.declared.box_header.BoxHeader.{BoxHeader}
use Rattle.hls_boxes.specs.Kinds.{mdat_type}
use Rattle.hls_boxes.specs.Boxes.{Child, children, header_at}
use Rattle.hls_media_laws.specs.InitData.{InitData}
use Rattle.hls_media_laws.specs.declared.facts.Facts.{Facts}
use Rattle.hls_media_laws.specs.IsInitOrUnit.{IsUnit}
use Rattle.hls_media_laws.specs.UnitFacts.{facts}

-- boxes, and the header of an `mdat` that ends `len` bytes later
pub record IsHead (head : List ℕ) (len : ℕ) : Type 0 where
  pub front : List ℕ
  pub boxes : List Child
  pub last : List ℕ
  pub header : BoxHeader
  pub split : head ≡ front ++ last
  pub filled : children front ≡ Some boxes
  pub begins : header_at last ≡ Some header
  pub is_mdat : (header.kind == mdat_type) ≡ true
  pub fits : header.head ≤ header.size
  pub ends : length last + len ≡ header.size

-- whatever follows a head up to the unit's length, the facts are the same
abbrev pub HeadsDetermineFacts : Type 0
HeadsDetermineFacts = (init : InitData) (head a b : List ℕ) → IsHead head (length a) → length b ≡ length a → facts init (head ++ b) ≡ facts init (head ++ a)

-- every unit has a head, and with as many zeros after it, its facts are the unit's
abbrev pub UnitsHaveHeads : Type 0
UnitsHaveHeads =
    (init : InitData) (unit : List ℕ) (f : Facts) → IsUnit init unit f
    → (head : List ℕ) × (rest : List ℕ) × (unit ≡ head ++ rest) × IsHead head (length rest) × IsUnit init (head ++ replicate (length rest) 0) f
