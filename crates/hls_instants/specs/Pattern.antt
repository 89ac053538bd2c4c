-- The shape of an instant's text as a test of its bytes, for the code that implements it; the grammar is `Instants`.

use Rattle.std.specs.Prelude.{ℕ, zero, suc, Bool, true, false, ◌&&◌, ◌||◌, ◌==◌, nat_le, List, [], ◌∷◌, Option, Some, None, if◌then◌else◌, codes}

-- whether a byte matches a byte of a pattern: a digit matches every digit up to itself, and a plus sign matches either sign
abbrev pub matches_byte : ℕ → ℕ → Bool
matches_byte pattern byte =
    if nat_le 48 pattern && nat_le pattern 57 then nat_le 48 byte && nat_le byte pattern
    else (if pattern == 43 then (byte == 43) || (byte == 45) else byte == pattern)

-- the text after the pattern, if the text begins with it
unfoldable pub rest_after_pattern : List ℕ → List ℕ → Option (List ℕ)
rest_after_pattern [] text = Some text
rest_after_pattern (p ∷ ps) [] = None
rest_after_pattern (p ∷ ps) (b ∷ bs) = if matches_byte p b then rest_after_pattern ps bs else None

-- nothing follows the pattern
abbrev pub is_empty_rest : Option (List ℕ) → Bool
is_empty_rest None = false
is_empty_rest (Some []) = true
is_empty_rest (Some (b ∷ bs)) = false

-- the whole text matches the pattern
abbrev pub matches_pattern : List ℕ → List ℕ → Bool
matches_pattern pattern text = is_empty_rest (rest_after_pattern pattern text)

-- the text is a zone: Z, or an offset whose hours are up to 19, or 20 to 23
abbrev pub is_zone : List ℕ → Bool
is_zone text = matches_pattern (codes "Z") text || matches_pattern (codes "+19:59") text || matches_pattern (codes "+23:59") text

-- the text is at most the given number of digits, and a zone
unfoldable pub is_fraction_and_zone : ℕ → List ℕ → Bool
is_fraction_and_zone zero text = is_zone text
is_fraction_and_zone (suc k) [] = false
is_fraction_and_zone (suc k) (b ∷ bs) = is_zone (b ∷ bs) || (matches_byte 57 b && is_fraction_and_zone k bs)

-- what may follow the point and its first digit: up to eight more digits and a zone
abbrev pub is_after_point : Option (List ℕ) → Bool
is_after_point None = false
is_after_point (Some text) = is_fraction_and_zone 8 text

-- what may follow the seconds: a zone, or a point, one to nine digits and a zone
abbrev pub is_after_seconds : Option (List ℕ) → Bool
is_after_seconds None = false
is_after_seconds (Some text) = is_zone text || is_after_point (rest_after_pattern (codes ".9") text)

-- the text has the shape of an instant: YYYY-MM-DDTHH:MM:SS with seconds up to 59, then perhaps a fraction, and a zone
abbrev pub has_shape : List ℕ → Bool
has_shape text = is_after_seconds (rest_after_pattern (codes "9999-99-99T99:99:59") text)
