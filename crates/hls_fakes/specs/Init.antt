-- An init section of one track: `ftyp`, a `free` box, and `moov`, together 600 bytes.
use Rattle.std.specs.Prelude.{ℕ, List, [], ◌∷◌, ◌++◌, replicate, codes}
use Rattle.hls_fakes.specs.Boxes.{number_bytes, box_of}

-- the `ftyp` box of brand `isom`
abbrev pub ftyp : List ℕ
ftyp = box_of (codes "ftyp") (codes "isom" ∷ number_bytes (0 ∷ []) ∷ [])

-- the `tkhd` box of a track: flags 3 (enabled, in movie), the track's number, and 68 bytes of zero
abbrev pub tkhd : ℕ → List ℕ
tkhd track = box_of (codes "tkhd") (number_bytes (3 ∷ 0 ∷ 0 ∷ track ∷ []) ∷ replicate 68 0 ∷ [])

-- the `mdhd` box with a timescale in ticks per second
abbrev pub mdhd : ℕ → List ℕ
mdhd scale = box_of (codes "mdhd") (number_bytes (0 ∷ 0 ∷ 0 ∷ scale ∷ 0 ∷ 1438908416 ∷ []) ∷ [])

-- the `hdlr` box of a four-letter handler, its name empty
abbrev pub hdlr : List ℕ → List ℕ
hdlr handler = box_of (codes "hdlr") (replicate 8 0 ∷ handler ∷ replicate 13 0 ∷ [])

-- the `mdia` box, here without `minf`
abbrev pub mdia : List ℕ → ℕ → List ℕ
mdia handler scale = box_of (codes "mdia") (mdhd scale ∷ hdlr handler ∷ [])

-- the `trak` box
abbrev pub trak : ℕ → List ℕ → ℕ → List ℕ
trak track handler scale = box_of (codes "trak") (tkhd track ∷ mdia handler scale ∷ [])

-- the `trex` box of a track: sample description 1, no defaults
abbrev pub trex : ℕ → List ℕ
trex track = box_of (codes "trex") (number_bytes (0 ∷ track ∷ 1 ∷ 0 ∷ 0 ∷ 0 ∷ []) ∷ [])

-- a `free` box of zeros
abbrev pub free : List ℕ
free = box_of (codes "free") (replicate 355 0 ∷ [])

-- the `moov` box of one track
abbrev pub moov : List ℕ → ℕ → List ℕ
moov handler scale = box_of (codes "moov") (trak 1 handler scale ∷ box_of (codes "mvex") (trex 1 ∷ []) ∷ [])

-- the whole section
abbrev pub init_bytes : List ℕ → ℕ → List ℕ
init_bytes handler scale = ftyp ++ free ++ moov handler scale
