-- The types of a part's boxes, as tests in order.
use Rattle.std.specs.Prelude.{ℕ, ◌==◌, Bool, true, false, if◌then◌else◌, ◌&&◌, Option, Some, None, List, [], ◌∷◌}
use Rattle.hls_boxes.specs.Kinds.{moov_type, moof_type, mdat_type}
use Rattle.hls_boxes.specs.Boxes.{Child, kinds_of}
use Rattle.hls_boxes.specs.Grammar.{is_loose}

-- no type follows
abbrev pub is_last : List ℕ → Bool
is_last [] = true
is_last (k ∷ kinds) = false

-- loose types, and a `moov` at the end
abbrev pub ends_init : List ℕ → Bool
ends_init [] = false
ends_init (k ∷ kinds) = if k == moov_type then is_last kinds else is_loose k && ends_init kinds

-- the types of a unit after its `moof`: loose ones, and an `mdat` at the end
abbrev pub ends_unit : List ℕ → Bool
ends_unit [] = false
ends_unit (k ∷ kinds) = if k == mdat_type then is_last kinds else is_loose k && ends_unit kinds

-- loose types, a `moof`, loose types, and an `mdat` at the end
abbrev pub has_unit : List ℕ → Bool
has_unit [] = false
has_unit (k ∷ kinds) = if k == moof_type then ends_unit kinds else is_loose k && has_unit kinds

-- boxes fill the bytes, and their types pass the test
abbrev pub fills : (List ℕ → Bool) → Option (List Child) → Bool
fills kinds_hold None = false
fills kinds_hold (Some boxes) = kinds_hold (kinds_of boxes)
