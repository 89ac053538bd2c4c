-- The types of the boxes that the cut distinguishes, each its four letters as a big-endian number (ISO/IEC 14496-12 4.2), and the limits of
-- the parts that they end, in bytes.
use Rattle.std.specs.Prelude.{ℕ}

-- "moov": it ends an init section (8.2.1)
abbrev pub moov_type : ℕ
moov_type = 0x6d6f6f76

-- "moof": a unit has exactly one (8.8.4)
abbrev pub moof_type : ℕ
moof_type = 0x6d6f6f66

-- "mdat": it ends a unit (8.1.1)
abbrev pub mdat_type : ℕ
mdat_type = 0x6d646174

-- the maximum length of an init section, with the loose boxes before its `moov`
abbrev pub init_limit : ℕ
init_limit = 1048576

-- the maximum length of a unit, or of the loose boxes of a part
abbrev pub unit_limit : ℕ
unit_limit = 67108864
