-- The stream cut: the parts of a text, and its remainder.
use Rattle.std.specs.Prelude.{◌≡◌, ℕ, suc, zero, ◌+◌, ◌==◌, nat_lt, Bool, true, false, if◌then◌else◌, ◌&&◌, ◌||◌, not, Option, Some, None, List, [], ◌∷◌, ◌++◌, length, take, drop}
use Rattle.hls_boxes.specs.declared.box_header.BoxHeader.{BoxHeader}
use Rattle.hls_boxes.specs.declared.part.Part.{Part}
use Rattle.hls_boxes.specs.declared.part.Part.TheVariants as parts
use Rattle.hls_boxes.specs.declared.fault.BoxFault.{BoxFault}
use Rattle.hls_boxes.specs.declared.fault.BoxFault.TheVariants.{BadSize, TooLarge, OpenEnded, MdatAlone, MoofWithoutMdat, Truncated}
use Rattle.hls_boxes.specs.declared.box_effect.BoxEffect.{BoxEffect}
use Rattle.hls_boxes.specs.declared.box_effect.BoxEffect.TheVariants.{Incomplete, Fault, Continues, Ends}
use Rattle.hls_boxes.specs.Kinds.{moov_type, moof_type, mdat_type, init_limit, unit_limit}
use Rattle.hls_boxes.specs.Boxes.{header_at}

-- the limit of a part that a box of this type ends or joins
abbrev pub limit_of : ℕ → ℕ
limit_of kind = if kind == moov_type then init_limit else unit_limit

-- the first fault of a box with this header, in a part with `before` bytes before the box, given whether it has a `moof`
abbrev pub fault_of : BoxHeader → ℕ → Bool → Option BoxFault
fault_of h before has_moof =
    if h.size == 0 && h.head == 8 then Some OpenEnded
    else (if nat_lt h.size h.head then Some BadSize
    else (if h.kind == mdat_type && not has_moof then Some MdatAlone
    else (if (h.kind == moof_type || h.kind == moov_type) && has_moof then Some MoofWithoutMdat
    else (if nat_lt (limit_of h.kind) (before + h.size) then Some TooLarge
    else None))))

-- the effect of a complete box without a fault
abbrev pub effect_of_box : BoxHeader → Bool → BoxEffect
effect_of_box h has_moof =
    if h.kind == moov_type || h.kind == mdat_type then Ends h.kind h.size
    else Continues (has_moof || h.kind == moof_type) h.size

-- the effect of a box, given its header, how many bytes are there from it on, and the header's first fault, if there is one
abbrev pub effect_of_checked_box : BoxHeader → ℕ → Bool → Option BoxFault → BoxEffect
effect_of_checked_box h len has_moof (Some fault) = Fault fault
effect_of_checked_box h len has_moof None = if nat_lt len h.size then Incomplete else effect_of_box h has_moof

-- the effect of a box, given its header, if that is complete, and how many bytes are there
abbrev pub effect_of_header : Option BoxHeader → ℕ → ℕ → Bool → BoxEffect
effect_of_header None len before has_moof = Incomplete
effect_of_header (Some h) len before has_moof = effect_of_checked_box h len has_moof (fault_of h before has_moof)

-- the effect of the box at the start of the bytes
unfoldable pub effect_at : List ℕ → ℕ → Bool → BoxEffect
effect_at bytes before has_moof = effect_of_header (header_at bytes) (length bytes) before has_moof

-- the part that a box of this type ends
abbrev pub part_of : ℕ → List ℕ → Part
part_of kind bytes = if kind == moov_type then parts.Init bytes else parts.Unit bytes

-- the bytes of a part
abbrev pub bytes_of : Part → List ℕ
bytes_of (parts.Init bytes) = bytes
bytes_of (parts.Unit bytes) = bytes

-- the remainder of a text after its parts: nothing, boxes that end no part, boxes and a truncated one, or bytes after a faulty header
pub data Remainder : Type 0 where
  Nothing : Remainder
  Boxes : (has_moof : Bool) → Remainder
  CutShort : Remainder
  Refused : (fault : BoxFault) → Remainder

-- the parts of a text, in order, and its remainder
pub record StreamCut : Type 0 where
  pub parts : List Part
  pub left : Remainder

-- the cut of a text that begins with these parts, given the cut of what follows them
abbrev pub after_parts : List Part → StreamCut → StreamCut
after_parts ps c = record { parts = ps ++ c.parts; left = c.left }

-- the remainder for a part in progress of `before` bytes and `rest` bytes of an incomplete box
abbrev pub rest_of_part : ℕ → ℕ → Bool → Remainder
rest_of_part before rest has_moof =
    if nat_lt 0 rest then CutShort
    else (if has_moof then Boxes true
    else (if nat_lt 0 before then Boxes false else Nothing))

-- one box, and then the cut by `cut` of the part in progress and the rest
abbrev pub cut_by_effect : (List ℕ → List ℕ → Bool → StreamCut) → List ℕ → List ℕ → Bool → BoxEffect → StreamCut
cut_by_effect cut before rest has_moof Incomplete = record { parts = []; left = rest_of_part (length before) (length rest) has_moof }
cut_by_effect cut before rest has_moof (Fault fault) = record { parts = []; left = Refused fault }
cut_by_effect cut before rest has_moof (Continues moof size) = cut (before ++ take size rest) (drop size rest) moof
cut_by_effect cut before rest has_moof (Ends kind size) =
    after_parts (part_of kind (before ++ take size rest) ∷ []) (cut [] (drop size rest) false)

-- the cut of the rest in at most `most` steps: each consumes a box or stops
unfoldable pub cut_within : ℕ → List ℕ → List ℕ → Bool → StreamCut
cut_within zero before rest has_moof = record { parts = []; left = CutShort }
cut_within (suc most) before rest has_moof =
    cut_by_effect (cut_within most) before rest has_moof (effect_at rest (length before) has_moof)

-- the cut of a text that consists of the part in progress, `before`, and what follows it, `rest`, given whether the part has a `moof`
unfoldable pub cut_at : List ℕ → List ℕ → Bool → StreamCut
cut_at before rest has_moof = cut_within (suc (length rest)) before rest has_moof

-- the cut of a text
abbrev pub stream_cut : List ℕ → StreamCut
stream_cut bytes = cut_at [] bytes false

-- the fault that a remainder shows, whatever follows it
abbrev pub fault_of_rest : Remainder → Option BoxFault
fault_of_rest Nothing = None
fault_of_rest (Boxes has_moof) = None
fault_of_rest CutShort = None
fault_of_rest (Refused fault) = Some fault

-- the fault that a text shows, whatever follows it
abbrev pub text_fault : List ℕ → Option BoxFault
text_fault bytes = fault_of_rest (stream_cut bytes).left

-- the fault of a remainder after which the text ends
abbrev pub fault_at_end : Remainder → Option BoxFault
fault_at_end Nothing = None
fault_at_end (Boxes has_moof) = if has_moof then Some Truncated else None
fault_at_end CutShort = Some Truncated
fault_at_end (Refused fault) = Some fault

-- the text is exactly one init section
abbrev pub IsInitPart : List ℕ → Type 0
IsInitPart bytes = stream_cut bytes ≡ record { parts = parts.Init bytes ∷ []; left = Nothing }

-- the text is exactly one unit
abbrev pub IsUnitPart : List ℕ → Type 0
IsUnitPart bytes = stream_cut bytes ≡ record { parts = parts.Unit bytes ∷ []; left = Nothing }
