-- Texts with a known cut, computed from the definition.
use Rattle.std.proofs.Common.{◌≡◌, ℕ, true, false, List, [], ◌∷◌, ◌++◌, refl}
use Rattle.hls_boxes.specs.declared.part.Part.TheVariants as parts
use Rattle.hls_boxes.specs.declared.fault.BoxFault.TheVariants.{BadSize, TooLarge, OpenEnded, MdatAlone, MoofWithoutMdat}
use Rattle.hls_boxes.specs.Boxes.{number_at, header_at}
use Rattle.hls_boxes.specs.Parts.{effect_at, Nothing, Boxes, CutShort, Refused, cut_within, cut_at, stream_cut}

-- boxes of 8 bytes, and an `mdat` of 12
abbrev styp : List ℕ
styp = 0 ∷ 0 ∷ 0 ∷ 8 ∷ 115 ∷ 116 ∷ 121 ∷ 112 ∷ []

abbrev moov : List ℕ
moov = 0 ∷ 0 ∷ 0 ∷ 8 ∷ 109 ∷ 111 ∷ 111 ∷ 118 ∷ []

abbrev moof : List ℕ
moof = 0 ∷ 0 ∷ 0 ∷ 8 ∷ 109 ∷ 111 ∷ 111 ∷ 102 ∷ []

abbrev mdat : List ℕ
mdat = 0 ∷ 0 ∷ 0 ∷ 12 ∷ 109 ∷ 100 ∷ 97 ∷ 116 ∷ 170 ∷ 170 ∷ 170 ∷ 170 ∷ []

-- an init section, and a unit whose `styp` belongs to it
init_and_unit : stream_cut (moov ++ styp ++ moof ++ mdat) ≡ record { parts = parts.Init moov ∷ parts.Unit (styp ++ moof ++ mdat) ∷ []; left = Nothing }
unfolding cut_at cut_within effect_at header_at number_at
init_and_unit = refl

-- loose boxes after the last part
loose_box : stream_cut (moov ++ styp) ≡ record { parts = parts.Init moov ∷ []; left = Boxes false }
unfolding cut_at cut_within effect_at header_at number_at
loose_box = refl

-- a `moof` without its `mdat`
held_moof : stream_cut (styp ++ moof) ≡ record { parts = []; left = Boxes true }
unfolding cut_at cut_within effect_at header_at number_at
held_moof = refl

-- a truncated `mdat`
short_box : stream_cut (moof ++ (0 ∷ 0 ∷ 0 ∷ 12 ∷ 109 ∷ 100 ∷ 97 ∷ 116 ∷ 170 ∷ [])) ≡ record { parts = []; left = CutShort }
unfolding cut_at cut_within effect_at header_at number_at
short_box = refl

-- an `mdat` without a `moof` is a fault
mdat_alone : stream_cut (moov ++ mdat) ≡ record { parts = parts.Init moov ∷ []; left = Refused MdatAlone }
unfolding cut_at cut_within effect_at header_at number_at
mdat_alone = refl

-- a second `moof` before an `mdat` is a fault
moof_after_moof : stream_cut (moof ++ moof) ≡ record { parts = []; left = Refused MoofWithoutMdat }
unfolding cut_at cut_within effect_at header_at number_at
moof_after_moof = refl

-- a 32-bit size of 0 is a fault
open_mdat : stream_cut (moof ++ (0 ∷ 0 ∷ 0 ∷ 0 ∷ 109 ∷ 100 ∷ 97 ∷ 116 ∷ [])) ≡ record { parts = []; left = Refused OpenEnded }
unfolding cut_at cut_within effect_at header_at number_at
open_mdat = refl

-- a size below that of the header is a fault
short_size : stream_cut (0 ∷ 0 ∷ 0 ∷ 7 ∷ 102 ∷ 114 ∷ 101 ∷ 101 ∷ []) ≡ record { parts = []; left = Refused BadSize }
unfolding cut_at cut_within effect_at header_at number_at
short_size = refl

-- a 64-bit size of 0 isn't open-ended
long_zero : stream_cut (0 ∷ 0 ∷ 0 ∷ 1 ∷ 102 ∷ 114 ∷ 101 ∷ 101 ∷ 0 ∷ 0 ∷ 0 ∷ 0 ∷ 0 ∷ 0 ∷ 0 ∷ 0 ∷ []) ≡ record { parts = []; left = Refused BadSize }
unfolding cut_at cut_within effect_at header_at number_at
long_zero = refl

-- a box that fills the limit of a unit has no fault
at_limit : stream_cut (4 ∷ 0 ∷ 0 ∷ 0 ∷ 102 ∷ 114 ∷ 101 ∷ 101 ∷ []) ≡ record { parts = []; left = CutShort }
unfolding cut_at cut_within effect_at header_at number_at
at_limit = refl

-- a box that exceeds the limit of a unit by a byte is a fault
past_limit : stream_cut (4 ∷ 0 ∷ 0 ∷ 1 ∷ 102 ∷ 114 ∷ 101 ∷ 101 ∷ []) ≡ record { parts = []; left = Refused TooLarge }
unfolding cut_at cut_within effect_at header_at number_at
past_limit = refl

-- a `moov` that exceeds the limit of an init section by a byte is a fault
past_init_limit : stream_cut (0 ∷ 16 ∷ 0 ∷ 1 ∷ 109 ∷ 111 ∷ 111 ∷ 118 ∷ []) ≡ record { parts = []; left = Refused TooLarge }
unfolding cut_at cut_within effect_at header_at number_at
past_init_limit = refl
