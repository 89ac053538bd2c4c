-- The body of a record: its kind in a byte, the worker in two, the rendition in one, and what the kind needs.
use Rattle.std.specs.Prelude.{◌≡◌, ◌⊎◌, ℕ, ◌+◌, ◌-◌, ◌<◌, ◌≤◌, List, ◌++◌, length, take, drop, get_or, replicate, slice_range}
use Rattle.byteorder.specs.Endian.{little_number}

-- the kind of a record: its first byte
abbrev pub kind_in : List ℕ → ℕ
kind_in body = get_or body 0 0

-- the number of the worker whose event it is
abbrev pub worker_in : List ℕ → ℕ
worker_in body = little_number 2 (drop 1 body)

-- the number of the event's rendition
abbrev pub rendition_in : List ℕ → ℕ
rendition_in body = get_or body 3 0

-- of the record of a begin: the bytes of the init section
abbrev pub init_section_in : List ℕ → List ℕ
init_section_in body = drop 4 body

-- of the record of a slide or a trim: the number of segments, or the floor
abbrev pub number_in : List ℕ → ℕ
number_in body = little_number 8 (drop 4 body)

-- of a unit's record: the unit's length in bytes
abbrev pub unit_len_in : List ℕ → ℕ
unit_len_in body = little_number 4 (drop 4 body)

-- of a unit's record: the eight bytes of the unit's checksum
abbrev pub unit_checksum_in : List ℕ → List ℕ
unit_checksum_in body = take 8 (drop 8 body)

-- of a unit's record: the head of the unit
abbrev pub unit_head_in : List ℕ → List ℕ
unit_head_in body = drop 16 body

-- a record of no event: that job ids were given out or a process started, a sync point, or that the journal was closed
abbrev pub IsAside : List ℕ → Type 0
IsAside body = (6 ≤ kind_in body) × (kind_in body ≤ 8)
