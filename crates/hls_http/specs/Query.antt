-- The values of a query, in the encoding of a form (URL Standard, section 5).
use Rattle.std.specs.{Prelude.{ℕ, bytes_eq, cond, List, [], ◌∷◌, Option, Some, None}, Global.Global, declared.vec.Vec.Vec}

-- a decoded pair, as bytes
abbrev pub pair_bytes : Vec ℕ Global × Vec ℕ Global → List ℕ × List ℕ
pair_bytes pair = (pair.0.items, pair.1.items)

-- the value of the first pair with this key
unfoldable pub first_pair_value : List ℕ → List (List ℕ × List ℕ) → Option (List ℕ)
first_pair_value key [] = None
first_pair_value key (pair ∷ pairs) = cond (bytes_eq pair.0 key) (Some pair.1) (first_pair_value key pairs)
