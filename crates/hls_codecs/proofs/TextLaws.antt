-- A hexadecimal number, its highest digit first, and constraint bytes.
use Rattle.std.proofs.Common.{◌≡◌, ℕ, zero, suc, ◌-◌, ◌/◌, ◌%◌, ◌<◌, ◌≤◌, ◌==◌, nat_lt, true, false, List, [], ◌∷◌, ◌++◌, length, drop, append_assoc, append-nil, refl, sym, ◌∙◌, ap, arith}
use Rattle.std.specs.Prelude.{slice_index}
use Rattle.std.proofs.lemmas.Bool.Decides.{nat_tests}
use Rattle.std.specs.List.{list_all}
use Rattle.hls_codecs.specs.Texts.{hex_digit, hex_number, point, constraint_texts}

-- a number in no digits is empty
pub hex-none : (most n : ℕ) → most ≡ 0 → hex_number most n ≡ []
unfolding hex_number
hex-none zero n none = refl
hex-none (suc most) n none = absurd (omega arith)

-- a number below 16 needs one hexadecimal digit
small : (n : ℕ) → n < 16 → nat_lt n 16 ≡ true
small n is = grind (arith, nat_tests)

-- a number from 16 on needs more hexadecimal digits
large : (n : ℕ) → 16 ≤ n → nat_lt n 16 ≡ false
large n is = grind (arith, nat_tests)

-- a number below 16 is its one digit
pub hex-last : (most n : ℕ) → 0 < most → n < 16 → hex_number most n ≡ hex_digit true (n % 16) ∷ []
unfolding hex_number
hex-last zero n some is = absurd (omega arith)
hex-last (suc most) n some is = rw (small n is) refl

-- a number from 16 on is the digits of its sixteenth part and its last digit
pub hex-more : (most n : ℕ) → 0 < most → 16 ≤ n → hex_number most n ≡ hex_number (most - 1) (n / 16) ++ hex_digit true (n % 16) ∷ []
unfolding hex_number
hex-more zero n some is = absurd (omega arith)
hex-more (suc most) n some is = let e : suc most - 1 ≡ most = omega arith in rw (large n is, e) refl

-- constraint bytes that are all 0 are left out
pub constraints-end : (bytes : List ℕ) → list_all (λ (c : ℕ). c == 0) bytes ≡ true → constraint_texts bytes ≡ []
unfolding constraint_texts
constraints-end [] none = refl
constraints-end (b ∷ bytes) none = rw none refl

-- constraint bytes that aren't all 0 begin with the first one after a point
pub constraints-next : (b : ℕ) (bytes : List ℕ) → list_all (λ (c : ℕ). c == 0) (b ∷ bytes) ≡ false → constraint_texts (b ∷ bytes) ≡ point (hex_number 2 b) ++ constraint_texts bytes
unfolding constraint_texts
constraints-next b bytes some = rw some refl

-- a digit that is added to a text writes a number below 16
pub hex-pushed_last : (old new : List ℕ) (digit most n : ℕ) → 0 < most → n < 16 → new ≡ old ++ digit ∷ [] → digit ≡ hex_digit true (n % 16) → new ≡ old ++ hex_number most n
hex-pushed_last old new digit most n some is new_is digit_is =
    let h : hex_number most n ≡ hex_digit true (n % 16) ∷ [] = hex-last most n some is in
    cc

-- the digits of a number's sixteenth part, and then its last digit, write a number from 16 on
pub hex-pushed_more : (old mid new : List ℕ) (digit most n : ℕ) → 0 < most → 16 ≤ n → mid ≡ old ++ hex_number (most - 1) (n / 16) → new ≡ mid ++ digit ∷ [] → digit ≡ hex_digit true (n % 16)
    → new ≡ old ++ hex_number most n
hex-pushed_more old mid new digit most n some is mid_is new_is digit_is =
    let h : hex_number most n ≡ hex_number (most - 1) (n / 16) ++ hex_digit true (n % 16) ∷ [] = hex-more most n some is in
    let a : (old ++ hex_number (most - 1) (n / 16)) ++ digit ∷ [] ≡ old ++ (hex_number (most - 1) (n / 16) ++ digit ∷ []) = append_assoc old (hex_number (most - 1) (n / 16)) (digit ∷ []) in
    cc

-- adding a point and a constraint byte leaves the text written and that still to write the same in total
pub constraint-pushed : (all out mid new rest : List ℕ) (b : ℕ) → 1 ≤ length rest → list_all (λ (c : ℕ). c == 0) rest ≡ false → b ≡ slice_index rest 0
    → mid ≡ out ++ 46 ∷ [] → new ≡ mid ++ hex_number 2 b → out ++ constraint_texts rest ≡ all → new ++ constraint_texts (drop 1 rest) ≡ all
constraint-pushed all out mid new [] b some more is mid_is new_is before = absurd (omega arith)
constraint-pushed all out mid new (a ∷ rest) b some more is mid_is new_is before =
    let h : constraint_texts (a ∷ rest) ≡ point (hex_number 2 a) ++ constraint_texts rest = constraints-next a rest more in
    rw (new_is, mid_is, is)
    (ap (λ (xs : List ℕ). xs ++ constraint_texts rest) (append_assoc out (46 ∷ []) (hex_number 2 a))
    ∙ append_assoc out (point (hex_number 2 a)) (constraint_texts rest)
    ∙ ap (λ (xs : List ℕ). out ++ xs) (sym h) ∙ before)

-- once the constraint bytes left are all 0, everything is written
pub constraints-done : (all out rest : List ℕ) → list_all (λ (c : ℕ). c == 0) rest ≡ true → out ++ constraint_texts rest ≡ all → out ≡ all
constraints-done all out rest none before = sym (append-nil out) ∙ ap (λ (xs : List ℕ). out ++ xs) (sym (constraints-end rest none)) ∙ before
