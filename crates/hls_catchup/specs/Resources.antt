-- The resource of a rendition, from the reply alone.
use Rattle.std.specs.Prelude.{◌≡◌, ℕ, ◌≤◌, List, [], ◌∷◌, length, drop, Option, Some, None, option_map}
use Rattle.std.specs.List.{concat}
use Rattle.hls_record.specs.RecordingData.{unit_piece}
use Rattle.hls_core_laws.specs.State.{State}
use Rattle.hls_core.specs.Getters.{recording_of}
use Rattle.hls_catchup.specs.declared.cut_result.CutResult.{CutResult}
use Rattle.hls_catchup.specs.declared.cut_result.CutResult.TheVariants.{Cut, NoCut}
use Rattle.hls_catchup.specs.Answers.{programme_units}
use Rattle.hls_catchup.specs.Replies.{ReplyData}

-- a rendition's resource in parts, from the reply's own snapshot: the init section, then each unit of the programme;
-- none if there is no such rendition, or the programme has no plan
abbrev pub parts_of : State → ℕ → CutResult → Option (List (List ℕ))
parts_of s r (Cut lists certificate) = option_map (λ recorded. recorded.head ∷ programme_units recorded r certificate.table) (recording_of s r)
parts_of s r (NoCut certificate) = None

-- the same for a reply, from its own state
abbrev pub parts_in : ReplyData → ℕ → Option (List (List ℕ))
parts_in reply r = parts_of reply.state r reply.cut_result

-- the total length of the parts in bytes
abbrev pub length_of_parts : Option (List (List ℕ)) → Option ℕ
length_of_parts parts = option_map (λ parts. length (concat parts)) parts

-- the bytes from byte `at` of the joined parts to the end of its part
abbrev pub piece_of : Option (List (List ℕ)) → ℕ → Option (List ℕ)
piece_of None at = None
piece_of (Some parts) at = unit_piece parts at

-- a position in slices, as a slice's number and an offset, from which on the bytes are those from byte `at` of the joined slices
pub record IsPositionOf (slices : List (List ℕ)) (at number within : ℕ) : Type 0 where
  pub rest : drop within (concat (drop number slices)) ≡ drop at (concat slices)
  pub back : within ≤ at

-- the position of byte `at` of the joined slices; none at or past their end
abbrev pub LocatesByte : List (List ℕ) → ℕ → Option (ℕ × ℕ) → Type 0
LocatesByte slices at None = length (concat slices) ≤ at
LocatesByte slices at (Some place) = IsPositionOf slices at place.0 place.1
