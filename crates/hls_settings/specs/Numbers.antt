-- Numbers on the command line, and arguments split at a delimiter.
use Rattle.std.specs.Prelude.{ℕ, List, Option, Some, None, cond, length, ◌&&◌, nat_lt, nat_le, option_and_then, option_map, ◌==◌}
use Rattle.std.specs.List.{position_or_len, before_first, after_first}
use Rattle.hls_text.specs.Digits.{number_of_digits}

-- a number, if it is within bounds
abbrev pub in_range : ℕ → ℕ → ℕ → Option ℕ
in_range least most number = cond (nat_le least number && nat_le number most) (Some number) None

-- an option's number within bounds; the default has the same bounds
abbrev pub number_or_default : ℕ → ℕ → ℕ → Option (List ℕ) → Option ℕ
number_or_default least most default None = in_range least most default
number_or_default least most default (Some text) = option_and_then (in_range least most) (number_of_digits 16 text)

-- an optional number within bounds; a number that is given must be valid. For the code alone
abbrev pub optional_number : ℕ → ℕ → Option (List ℕ) → Option (Option ℕ)
optional_number least most None = Some None
optional_number least most (Some text) = option_map Some (option_and_then (in_range least most) (number_of_digits 16 text))

-- the texts before and after the first such delimiter, if there is one
abbrev pub cut_at : ℕ → List ℕ → Option (List ℕ × List ℕ)
cut_at mark text =
    cond (nat_lt (position_or_len (λ b. b == mark) text) (length text)) (Some (before_first (λ b. b == mark) text, after_first (λ b. b == mark) text)) None
