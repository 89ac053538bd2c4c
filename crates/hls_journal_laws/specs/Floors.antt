-- The floors that the records of trims reach.
use Rattle.std.specs.Prelude.{ℕ, max, ◌==◌, ◌&&◌, if◌then◌else◌, List, [], ◌∷◌, length}
use Rattle.hls_journal_laws.specs.Bodies.{kind_in, rendition_in, number_in}

-- the floor to which a record trims a rendition, or 0
abbrev pub floor_in : List ℕ → ℕ → ℕ
floor_in body r = if (length body == 12) && (kind_in body == 5) && (rendition_in body == r) then number_in body else 0

-- the highest floor to which records trim a rendition, or 0
abbrev pub highest_floor : List (List ℕ) → ℕ → ℕ
highest_floor [] r = 0
highest_floor (body ∷ bodies) r = max (floor_in body r) (highest_floor bodies r)
