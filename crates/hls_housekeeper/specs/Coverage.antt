-- How many of the given units of rendition 0, by number, are no places, and how many are in no live segment.
use Rattle.std.specs.{Prelude.{ℕ, Bool, not, ◌&&◌, nat_eq, nat_le, nat_lt, List, count_by}, List.list_any}
use Rattle.hls_housekeeper.specs.declared.coverage.UnitRange.{UnitRange}

-- how many of the units are no places
abbrev pub count_missing : List ℕ → List ℕ → ℕ
count_missing places units = count_by (λ unit. not (list_any (λ place. nat_eq place unit) places)) units

-- whether a unit is in one of the ranges
abbrev pub is_covered : List UnitRange → ℕ → Bool
is_covered ranges unit = list_any (λ range. nat_le range.from unit && nat_lt unit range.to) ranges

-- how many of the units are in none of the ranges
abbrev pub count_uncovered : List UnitRange → List ℕ → ℕ
count_uncovered ranges units = count_by (λ unit. not (is_covered ranges unit)) units
