-- Digits read in sequence, and capped.
use Rattle.std.{proofs.Common.{◌≡◌, ℕ, ◌+◌, ◌-◌, ◌*◌, ◌^◌, ◌<◌, min, List, true, length, get_or, take, arith}, specs.Int.IsInRange}
use Rattle.std.{specs.Str.all_ascii_digits, proofs.lemmas.{Str.digit_value_digit, Int.Digits.digits_value_more}}
use Rattle.std.proofs.lemmas.Str.Parse.{digit_at, numerals_by_value, tells_all_ascii_digits}
use Rattle.hls_http.specs.Range.{capped_number}

-- each byte of a text of digits is in the range from 48 to 57
pub digit_here : (ds : List ℕ) (i : ℕ) → all_ascii_digits ds ≡ true → i < length ds → IsInRange 48 57 (get_or ds i 0)
digit_here ds i good below = digit_at ds i ((numerals_by_value (λ (xs : List ℕ). all_ascii_digits xs ≡ true) tells_all_ascii_digits).to ds good) below

-- a capped number times ten, plus the next digit, capped again, is the capped number of one more digit
pub capped_more : (ds : List ℕ) (i n d : ℕ) → all_ascii_digits ds ≡ true → i < length ds → n ≡ capped_number (take i ds) → d ≡ get_or ds i 0 - 48
    → min (n * 10 + d) (2 ^ 53) ≡ capped_number (take (i + 1) ds)
capped_more ds i n d good below n_is d_is =
    omega (arith, digits_value_more 10 ds i below, digit_value_digit (get_or ds i 0) (digit_here ds i good below))
