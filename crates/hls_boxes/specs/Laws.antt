-- Properties of every text, and of every text that begins with it.
use Rattle.std.specs.Prelude.{◌≡◌, ◌↔◌, List, [], ◌∷◌, ◌++◌, length, drop, ℕ, All}
use Rattle.std.specs.List.{flat_map}
use Rattle.hls_boxes.specs.declared.part.Part.{Part}
use Rattle.hls_boxes.specs.declared.fault.BoxFault.{BoxFault}
use Rattle.hls_boxes.specs.Parts.{bytes_of, Remainder, Nothing, Refused, after_parts, stream_cut, IsInitPart, IsUnitPart}
use Rattle.hls_boxes.specs.Grammar.{IsInitText, IsUnitText, IsPartText, HasNoPart}

-- the parts of a text are its first part, followed by the parts of the rest
abbrev pub PartsAreFirstThenRest : Type 0
PartsAreFirstThenRest =
    (bytes : List ℕ) (part : Part) (others : List Part) → (stream_cut bytes).parts ≡ part ∷ others
    → (more : List ℕ) → stream_cut (bytes ++ more) ≡ after_parts (part ∷ []) (stream_cut (drop (length (bytes_of part)) bytes ++ more))

-- a fault of a text is permanent, and no part is found after it
abbrev pub FaultsAreStable : Type 0
FaultsAreStable =
    (bytes more : List ℕ) (fault : BoxFault) → (stream_cut bytes).left ≡ Refused fault → stream_cut (bytes ++ more) ≡ stream_cut bytes

-- a text is the concatenation of its parts and the rest; cutting that rest leaves the same
pub record PartsAndRest (bytes : List ℕ) : Type 0 where
  pub rest : List ℕ
  pub joined : bytes ≡ flat_map bytes_of (stream_cut bytes).parts ++ rest
  pub left : stream_cut rest ≡ record { parts = []; left = (stream_cut bytes).left }

-- every text is the concatenation of its parts and a rest
abbrev pub PartsAndRestAreInput : Type 0
PartsAndRestAreInput = (bytes : List ℕ) → PartsAndRest bytes

-- the bytes of a part, on their own, are one part
abbrev pub PartAloneIsOnePart : Type 0
PartAloneIsOnePart =
    (bytes : List ℕ) → All (λ part. stream_cut (bytes_of part) ≡ record { parts = part ∷ []; left = Nothing }) (stream_cut bytes).parts

-- if a text is one part, the part's bytes are the text, whatever follows it
abbrev pub OnePartIsItsBytes : Type 0
OnePartIsItsBytes =
    (bytes : List ℕ) (part : Part) → stream_cut bytes ≡ record { parts = part ∷ []; left = Nothing }
    → (bytes_of part ≡ bytes) × ((more : List ℕ) → stream_cut (bytes ++ more) ≡ after_parts (part ∷ []) (stream_cut more))

-- the empty text leaves nothing
abbrev pub EmptyInputLeavesNothing : Type 0
EmptyInputLeavesNothing = stream_cut [] ≡ record { parts = []; left = Nothing }

-- a text is exactly one init section by the cut if and only if it is one by the grammar
abbrev pub InitsMatchGrammar : Type 0
InitsMatchGrammar = (bytes : List ℕ) → IsInitPart bytes ↔ IsInitText bytes

-- a text is exactly one unit by the cut if and only if it is one by the grammar
abbrev pub UnitsMatchGrammar : Type 0
UnitsMatchGrammar = (bytes : List ℕ) → IsUnitPart bytes ↔ IsUnitText bytes

-- the first part of a text by the cut is its prefix that is a part by the grammar
abbrev pub FirstPartMatchesGrammar : Type 0
FirstPartMatchesGrammar =
    (bytes : List ℕ) (part : Part)
    → ((others : List Part) × ((stream_cut bytes).parts ≡ part ∷ others))
    ↔ ((rest : List ℕ) × (bytes ≡ bytes_of part ++ rest) × IsPartText part)

-- a text has no part and this remainder by the cut if and only if it has them by the grammar
abbrev pub RestMatchesGrammar : Type 0
RestMatchesGrammar =
    (bytes : List ℕ) (left : Remainder) → (stream_cut bytes ≡ record { parts = []; left = left }) ↔ HasNoPart bytes left
