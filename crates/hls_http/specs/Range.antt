-- The part of a resource that a Range asks for (RFC 9110, section 14).
use Rattle.std.specs.Prelude.{ℕ, ◌+◌, ◌-◌, min, nat_lt, nat_le, nat_eq, ◌&&◌, cond, ◌==◌, List, [], ◌∷◌, take, drop, position, codes, bytes_eq, Option, Some, None}
use Rattle.std.specs.{Str.all_ascii_digits, Str.Parse.digits_value}
use Rattle.hls_http.specs.{declared.range_spec.RangeSpec.RangeSpec, declared.range_spec.RangeSelection.RangeSelection, Limits.range_limit}
use Rattle.hls_http.specs.declared.range_spec.RangeSpec.TheVariants as asks
use Rattle.hls_http.specs.declared.range_spec.RangeSelection.TheVariants as parts

-- a number of any count of digits, capped at 2^53
abbrev pub capped_number : List ℕ → ℕ
capped_number digits = min (digits_value 10 digits) range_limit

-- the range from a to b if a <= b; else the field is ignored
abbrev pub bounded_range : ℕ → ℕ → RangeSpec
bounded_range a b = cond (nat_le a b) (asks.Between a b) asks.All

-- the range of the two parts of `-n`, `a-` or `a-b`
abbrev pub by_parts : List ℕ → List ℕ → RangeSpec
by_parts [] [] = asks.All
by_parts [] (d ∷ ds) = asks.Suffix (capped_number (d ∷ ds))
by_parts (d ∷ ds) [] = asks.From (capped_number (d ∷ ds))
by_parts (d ∷ ds) (e ∷ es) = bounded_range (capped_number (d ∷ ds)) (capped_number (e ∷ es))

-- the range of two texts, if they are digits; else the field is ignored
abbrev pub by_texts : List ℕ → List ℕ → RangeSpec
by_texts front following = cond (all_ascii_digits front && all_ascii_digits following) (by_parts front following) asks.All

-- the range by the texts before and after the hyphen
abbrev pub spec_around : List ℕ → Option ℕ → RangeSpec
spec_around text None = asks.All
spec_around text (Some at) = by_texts (take at text) (drop (at + 1) text)

-- the range that the text after `bytes=` asks for: its parts around the first hyphen
abbrev pub spec_of : List ℕ → RangeSpec
spec_of text = spec_around text (position (λ b. b == 45) text)

-- the range that a value asks for: `bytes=` and one such text; anything else is ignored
unfoldable pub range_of_value : List ℕ → RangeSpec
range_of_value value = cond (bytes_eq (take 6 value) (codes "bytes=")) (spec_of (drop 6 value)) asks.All

-- the range that the Range fields ask for; several fields are ignored
abbrev pub range_of_values : List (List ℕ) → RangeSpec
range_of_values [] = asks.All
range_of_values (value ∷ []) = range_of_value value
range_of_values (value ∷ other ∷ more) = asks.All

-- at most `len` bytes of a resource from byte a on; outside if the resource has no byte a
abbrev pub slice_from : ℕ → ℕ → ℕ → RangeSelection
slice_from total a len = cond (nat_lt a total) (parts.Slice a (min len (total - a))) parts.Outside

-- the part of a resource of `total` bytes that a range selects
abbrev pub range_selection : RangeSpec → ℕ → RangeSelection
range_selection asks.All total = parts.Whole
range_selection (asks.Between a b) total = slice_from total a (b + 1 - a)
range_selection (asks.From a) total = slice_from total a total
range_selection (asks.Suffix n) total = cond (nat_eq n 0) parts.Outside (slice_from total (total - n) n)
