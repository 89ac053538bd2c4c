-- The grammar of a part: boxes that fill it; only the last one ends a part.
use Rattle.std.specs.Prelude.{◌≡◌, ◌⊎◌, ℕ, ◌<◌, ◌≤◌, ◌==◌, Bool, true, false, ◌||◌, not, Some, None, List, [], ◌∷◌, ◌++◌, length}
use Rattle.std.specs.List.{list_all}
use Rattle.hls_boxes.specs.Kinds.{moov_type, moof_type, mdat_type, init_limit, unit_limit}
use Rattle.hls_boxes.specs.declared.part.Part.{Part}
use Rattle.hls_boxes.specs.declared.part.Part.TheVariants as parts
use Rattle.hls_boxes.specs.declared.box_header.BoxHeader.{BoxHeader}
use Rattle.hls_boxes.specs.Boxes.{header_at, Child, children, kinds_of}
use Rattle.hls_boxes.specs.Parts.{fault_of, Remainder, Nothing, Boxes, CutShort, Refused}

-- a box of another type than `moov`, `moof` and `mdat` is loose: it may come before or between them
abbrev pub is_loose : ℕ → Bool
is_loose kind = not (kind == moov_type || kind == moof_type || kind == mdat_type)

-- all of these types are loose
abbrev pub AreLoose : List ℕ → Type 0
AreLoose kinds = list_all is_loose kinds ≡ true

-- the types of an init section's boxes: loose ones, and a `moov` at the end
pub record InitKinds (kinds : List ℕ) : Type 0 where
  pub front : List ℕ
  pub loose : AreLoose front
  pub in_order : kinds ≡ front ++ moov_type ∷ []

-- the types of a unit's boxes: loose ones, a `moof`, loose ones, and an `mdat` at the end
pub record UnitKinds (kinds : List ℕ) : Type 0 where
  pub front : List ℕ
  pub between : List ℕ
  pub loose : AreLoose front
  pub loose_between : AreLoose between
  pub in_order : kinds ≡ front ++ moof_type ∷ (between ++ mdat_type ∷ [])

-- boxes of these types fill the bytes
abbrev pub FilledBy : (List ℕ → Type 0) → List ℕ → Type 0
FilledBy Kinds bytes = (boxes : List Child) × (children bytes ≡ Some boxes) × Kinds (kinds_of boxes)

-- a text that is an init section within its limit
abbrev pub IsInitText : List ℕ → Type 0
IsInitText bytes = FilledBy InitKinds bytes × (length bytes ≤ init_limit)

-- a text that is a unit within its limit
abbrev pub IsUnitText : List ℕ → Type 0
IsUnitText bytes = FilledBy UnitKinds bytes × (length bytes ≤ unit_limit)

-- the bytes of a part are an init section or a unit, by the part's kind
abbrev pub IsPartText : Part → Type 0
IsPartText (parts.Init bytes) = IsInitText bytes
IsPartText (parts.Unit bytes) = IsUnitText bytes

-- the types of boxes that end no part: loose ones, with a `moof` among them or without
abbrev pub OpenKinds : Bool → List ℕ → Type 0
OpenKinds false kinds = AreLoose kinds
OpenKinds true kinds =
    (front : List ℕ) × (between : List ℕ) × AreLoose front × AreLoose between × (kinds ≡ front ++ moof_type ∷ between)

-- a box without a fault whose header or content isn't complete
abbrev pub IsIncompleteBox : List ℕ → ℕ → Bool → Type 0
IsIncompleteBox tail before has_moof =
    (header_at tail ≡ None)
    ⊎ ((h : BoxHeader) × (header_at tail ≡ Some h) × (fault_of h before has_moof ≡ None) × (length tail < h.size))

-- what follows `before` bytes of boxes that end no part
abbrev pub IsTail : ℕ → Bool → List ℕ → Remainder → Type 0
IsTail before has_moof tail Nothing = (before ≡ 0) × (tail ≡ [])
IsTail before has_moof tail (Boxes held) = (0 < before) × (tail ≡ []) × (has_moof ≡ held)
IsTail before has_moof tail CutShort = (0 < length tail) × IsIncompleteBox tail before has_moof
IsTail before has_moof tail (Refused fault) =
    (h : BoxHeader) × (header_at tail ≡ Some h) × (fault_of h before has_moof ≡ Some fault)

-- a text without a part, and its remainder: boxes that end no part, and what follows them
pub record HasNoPart (bytes : List ℕ) (left : Remainder) : Type 0 where
  pub front : List ℕ
  pub tail : List ℕ
  pub boxes : List Child
  pub has_moof : Bool
  pub split : bytes ≡ front ++ tail
  pub filled : children front ≡ Some boxes
  pub kinds : OpenKinds has_moof (kinds_of boxes)
  pub limit : length front ≤ unit_limit
  pub behind : IsTail (length front) has_moof tail left
