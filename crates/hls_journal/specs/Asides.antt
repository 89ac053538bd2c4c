-- What records of no event say.
use Rattle.std.specs.Prelude.{◌≡◌, ℕ, ◌-◌, max, ◌==◌, ◌&&◌, if◌then◌else◌, List, [], ◌∷◌, length, get_or}
use Rattle.hls_journal_laws.specs.Bodies.{kind_in, number_in}

-- the number that all job ids so far are below, if a record says one, else 0
abbrev pub ids_in : List ℕ → ℕ
ids_in body = if (length body == 12) && (kind_in body == 6) then number_in body else 0

-- the highest such number in records
abbrev pub highest_ids : List (List ℕ) → ℕ
highest_ids [] = 0
highest_ids (body ∷ bodies) = max (ids_in body) (highest_ids bodies)

-- the last record says that the journal was closed
abbrev pub IsClosed : List (List ℕ) → Type 0
IsClosed bodies = kind_in (get_or bodies (length bodies - 1) []) ≡ 8
