-- A path names one range.
use Rattle.std.proofs.Common.{◌≡◌, ℕ, ◌+◌, ◌-◌, ◌^◌, ◌<◌, ◌≤◌, List, [], ◌∷◌, ◌++◌, drop, get_or, Some, arith, refl, sym, ap, ◌∙◌, append_assoc, lit<}
use Rattle.std.specs.Prelude.{codes}
use Rattle.std.specs.Fmt.{decimal}
use Rattle.std.proofs.lemmas.Fmt.{decimal_injective, digits_decimal}
use Rattle.std.specs.Int.{IsInRange}
use Rattle.std.specs.Str.Parse.{AllDigits, digits_value}
use Rattle.std.proofs.lemmas.Str.Parse.{IsNumeralModel, numerals_by_value, tells_digits}
use Rattle.hls_m3u8.specs.declared.playlist.ByteRange.{ByteRange}
use Rattle.hls_playlists_laws.specs.PathLists.{media_folder, range_text, segment_path}

-- no byte of a text is below the digit 0
abbrev AreDigits : List ℕ → Type 0
AreDigits [] = Unit {0}
AreDigits (x ∷ xs) = (48 ≤ x) × AreDigits xs

from-digits : (xs : List ℕ) → AllDigits 10 xs → AreDigits xs
from-digits [] all = tt
from-digits (x ∷ xs) all =
    let parts : IsInRange 48 57 x × AllDigits 10 xs = tells_digits.parts x xs all in
    (omega (arith, parts.0), from-digits xs parts.1)

rest-same : (x y : ℕ) (xs ys : List ℕ) → (x ∷ xs) ≡ (y ∷ ys) → xs ≡ ys
rest-same x y xs ys is = ap (λ (l : List ℕ). drop 1 l) is

first-same : (x y : ℕ) (xs ys : List ℕ) → (x ∷ xs) ≡ (y ∷ ys) → x ≡ y
first-same x y xs ys is = ap (λ (l : List ℕ). get_or l 0 0) is

cancel : (zs xs ys : List ℕ) → zs ++ xs ≡ zs ++ ys → xs ≡ ys
cancel [] xs ys is = is
cancel (z ∷ zs) xs ys is = cancel zs xs ys (rest-same z z (zs ++ xs) (zs ++ ys) is)

-- if two texts of digits, each with the same byte below the digit 0 after it, begin equal texts, they are equal, and so are the rests
digits-stop : (stop : ℕ) (xs ys u v : List ℕ) → stop < 48 → AreDigits xs → AreDigits ys → xs ++ stop ∷ u ≡ ys ++ stop ∷ v → (xs ≡ ys) × (u ≡ v)
digits-stop stop [] [] u v low x-are y-are is = (refl, rest-same stop stop u v is)
digits-stop stop [] (y ∷ ys) u v low x-are y-are is = absurd (omega (arith, low, y-are.0, first-same stop y u (ys ++ stop ∷ v) is))
digits-stop stop (x ∷ xs) [] u v low x-are y-are is = absurd (omega (arith, low, x-are.0, first-same x stop (xs ++ stop ∷ u) v is))
digits-stop stop (x ∷ xs) (y ∷ ys) u v low x-are y-are is =
    let rest = digits-stop stop xs ys u v low x-are.1 y-are.1 (rest-same x y (xs ++ stop ∷ u) (ys ++ stop ∷ v) is) in
    let first : x ≡ y = first-same x y (xs ++ stop ∷ u) (ys ++ stop ∷ v) is in
    (ap (λ (z : ℕ). z ∷ xs) first ∙ ap (λ (l : List ℕ). y ∷ l) rest.0, rest.1)

-- the decimal text of a number below 2^64 has no byte before a digit
decimal-digits : (n : ℕ) → n < 2 ^ 64 → AreDigits (decimal n)
decimal-digits n small =
    let own : IsNumeralModel (AllDigits 10) (digits_value 10) = numerals_by_value (AllDigits 10) tells_digits in
    from-digits (decimal n) (digits_decimal own n small)

-- if the texts of two ranges are equal, so are their first bytes and their last bytes, all below 2^64
range-is : (o l p m : ℕ) → o < 2 ^ 64 → l < 2 ^ 64 → p < 2 ^ 64 → m < 2 ^ 64 →
    (decimal o ++ 45 ∷ decimal l) ++ codes ".m4s" ≡ (decimal p ++ 45 ∷ decimal m) ++ codes ".m4s" → (o ≡ p) × (l ≡ m)
range-is o l p m o-small l-small p-small m-small is =
    let left = append_assoc (decimal o) (45 ∷ decimal l) (codes ".m4s") in
    let right = append_assoc (decimal p) (45 ∷ decimal m) (codes ".m4s") in
    let first = digits-stop 45 (decimal o) (decimal p) (decimal l ++ codes ".m4s") (decimal m ++ codes ".m4s") (lit< tt)
    (decimal-digits o o-small) (decimal-digits p p-small) (sym left ∙ (is ∙ right)) in
    let second = digits-stop 46 (decimal l) (decimal m) (drop 1 (codes ".m4s")) (drop 1 (codes ".m4s")) (lit< tt)
    (decimal-digits l l-small) (decimal-digits m m-small) first.1 in
    (decimal_injective o p o-small p-small first.0, decimal_injective l m l-small m-small second.0)

-- segments with one path have one range, if both ranges have bytes and end before 2^64
pub paths-are_ranges : (run : List ℕ) (r : ℕ) (x y : ByteRange) → 0 < x.length → 0 < y.length → x.offset + x.length < 2 ^ 64 → y.offset + y.length < 2 ^ 64 →
    segment_path run r (Some x) ≡ segment_path run r (Some y) → x ≡ y
paths-are_ranges run r x y x-some y-some x-small y-small is =
    let spans = cancel (media_folder run r) (range_text x ++ codes ".m4s") (range_text y ++ codes ".m4s") is in
    let said = range-is x.offset (x.offset + x.length - 1) y.offset (y.offset + y.length - 1)
    (omega (arith, x-small)) (omega (arith, x-small)) (omega (arith, y-small)) (omega (arith, y-small)) spans in
    let long : x.length ≡ y.length = omega (arith, said.0, said.1, x-some, y-some) in
    λ k. record { length = long k; offset = said.0 k }
