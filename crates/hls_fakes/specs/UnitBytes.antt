-- A unit of one sample: a `moof` of 100 bytes, and an `mdat`.
use Rattle.std.specs.Prelude.{ℕ, ◌-◌, Bool, if◌then◌else◌, List, [], ◌∷◌, ◌++◌, replicate, codes}
use Rattle.std.specs.Int.{to_be_bytes, w64}
use Rattle.hls_fakes.specs.Boxes.{number_bytes, box_of}

-- the `tfdt` box of a start in ticks, in its 64-bit form
abbrev pub tfdt : ℕ → List ℕ
tfdt start = box_of (codes "tfdt") (number_bytes (16777216 ∷ []) ∷ to_be_bytes w64 start ∷ [])

-- a sample's flags: depends on no other (a sync sample), or on others and isn't one
abbrev pub flags_of_sample : Bool → ℕ
flags_of_sample sync = if sync then 33554432 else 16842752

-- the `trun` box of one sample, whose bytes begin 108 bytes after the `moof`
abbrev pub trun : ℕ → ℕ → Bool → List ℕ
trun ticks size sync = box_of (codes "trun") (number_bytes (1793 ∷ 1 ∷ 108 ∷ ticks ∷ size ∷ flags_of_sample sync ∷ []) ∷ [])

-- the `moof` box
abbrev pub moof : ℕ → ℕ → Bool → ℕ → List ℕ
moof start ticks sync size = box_of (codes "moof") (
    box_of (codes "mfhd") (number_bytes (0 ∷ 1 ∷ []) ∷ [])
    ∷ box_of (codes "traf") (box_of (codes "tfhd") (number_bytes (131072 ∷ 1 ∷ []) ∷ []) ∷ tfdt start ∷ trun ticks size sync ∷ [])
    ∷ [])

-- the whole unit of `len` bytes
abbrev pub unit_bytes : ℕ → ℕ → Bool → ℕ → List ℕ
unit_bytes start ticks sync len =
    moof start ticks sync (len - 108) ++ box_of (codes "mdat") (replicate (len - 108) 170 ∷ [])
