-- What a segment's path names: whole units, from the one that begins at its first byte to the one that ends at its last byte. Bytes are
-- counted as the ranges of a live playlist count them: after the init section come the units that precede the recording, and then its own.
use Rattle.std.specs.Prelude.{ℕ, suc, ◌+◌, ◌-◌, ◌==◌, nat_lt, nat_le, Bool, ◌&&◌, if◌then◌else◌, List, [], ◌∷◌, Option, Some, None}
use Rattle.std.specs.List.{concat}
use Rattle.hls_time.specs.Times.{longest_length_us}
use Rattle.hls_media_laws.specs.declared.facts.Facts.{Facts}
use Rattle.hls_media_laws.specs.FactLists.{fact_at}
use Rattle.hls_core_laws.specs.Channel.{Lane}
use Rattle.hls_core_laws.specs.State.{HeldBytes}
use Rattle.hls_playlists_laws.specs.JobResource.{units_between}

-- the number of the unit that begins a number of bytes after the start of the first of these, which has number n; their end counts as the
-- start of a unit
abbrev pub unit_after : ℕ → List Facts → ℕ → Option ℕ
unit_after n [] bytes = if bytes == 0 then Some n else None
unit_after n (f ∷ fs) bytes = if bytes == 0 then Some n else (if nat_lt bytes f.len then None else unit_after (suc n) fs (bytes - f.len))

-- units from number m to the one before n that may be a segment: there are some, and they last no longer than the target duration allows
abbrev pub may_be_segment : ℕ → List Facts → ℕ → ℕ → Bool
may_be_segment target facts m n =
    nat_lt m n && nat_le ((fact_at facts (n - 1)).end_us - (fact_at facts m).start_us) (longest_length_us target)

-- nothing; or units whose first is trimmed; or the units from number m to the one before n
pub data Named : Type 0 where
  NoUnits : Named
  TrimmedUnits : Named
  KeptUnits : ℕ → ℕ → Named

-- what is named between two units' starts: nothing if one isn't found or the units can't be a segment, and trimmed units if the first is
-- below the floor
abbrev pub named_between : ℕ → List Facts → ℕ → Option ℕ → Option ℕ → Named
named_between target facts floor (Some m) (Some n) =
    if may_be_segment target facts m n then (if nat_lt m floor then TrimmedUnits else KeptUnits m n) else NoUnits
named_between target facts floor _ _ = NoUnits

-- what the bytes from number `first` to number `last` of a rendition name: `size` bytes of the init section and `before` bytes of units
-- precede its recording. What precedes is trimmed
abbrev pub named_units : ℕ → ℕ → ℕ → List Facts → ℕ → ℕ → ℕ → Named
named_units before target size facts floor first last =
    if nat_lt first size then NoUnits
    else (if nat_lt first (size + before) then TrimmedUnits
    else named_between target facts floor (unit_after 0 facts (first - (size + before))) (unit_after 0 facts (last + 1 - (size + before))))

-- what the bytes from number `first` to number `last` of a lane name, if `before` bytes of units precede its recording
abbrev pub named_in : ℕ → ℕ → Lane → ℕ → ℕ → Named
named_in before target l first last = named_units before target l.size l.facts l.floor first last

-- the bytes of the units from number m to the one before n
abbrev pub unit_bytes : Lane → HeldBytes → ℕ → ℕ → List ℕ
unit_bytes l h m n = concat (units_between l.floor h.units m n)
