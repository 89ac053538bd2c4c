-- The part of one rendition in a catch-up recording.
use Rattle.std.specs.Prelude.{◌≡◌, ℕ, ◌-◌, List, ◌++◌, length, take, drop, map}
use Rattle.std.specs.List.{concat}
use Rattle.hls_media_laws.specs.declared.facts.Facts.{Facts}
use Rattle.hls_media_laws.specs.FactLists.{len_of, total_bytes}

-- the number of bytes of the units from number `from` to the one before `to`
abbrev pub bytes_between : List Facts → ℕ → ℕ → ℕ
bytes_between facts from to = total_bytes (take (to - from) (drop from facts))

-- the units from number `from` to the one before `to`; those from number `floor` on are kept
abbrev pub units_between : ℕ → List (List ℕ) → ℕ → ℕ → List (List ℕ)
units_between floor units from to = take (to - from) (drop (from - floor) units)

-- the resource of a job: the init section, followed by those units
abbrev pub resource_of : List ℕ → ℕ → List (List ℕ) → ℕ → ℕ → List ℕ
resource_of head floor units from to = head ++ concat (units_between floor units from to)

-- the kept units are as long as their facts say
abbrev pub HaveLengths : List Facts → ℕ → List (List ℕ) → Type 0
HaveLengths facts floor units = map len_of (drop floor facts) ≡ map length units
