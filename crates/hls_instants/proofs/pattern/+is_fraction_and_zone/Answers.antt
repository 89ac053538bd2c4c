-- By whether no more digits are allowed, the text is empty, it is a zone, or it begins with a digit.
use Rattle.std.proofs.Common.{◌≡◌, ℕ, zero, suc, ◌+◌, ◌-◌, ◌≤◌, true, false, List, [], ◌∷◌, length, refl, sym, ap, ◌∙◌, arith}
use Rattle.std.specs.Char.{is_ascii_digit}
use Rattle.hls_instants.specs.Pattern.{matches_byte, is_zone, is_fraction_and_zone}
use Rattle.hls_instants.proofs.pattern.+is_fraction_and_zone.Goals as goal

-- if no more digits are allowed, the text must be a zone
no_digits : (k : ℕ) (text : List ℕ) → k ≡ 0 → is_zone text ≡ is_fraction_and_zone k text
unfolding is_fraction_and_zone
no_digits zero text e = refl
no_digits (suc k) text e = absurd (omega (arith, e))

-- an empty text doesn't pass if a digit is allowed
no_byte : (k : ℕ) (text : List ℕ) → 1 ≤ k → length text ≡ 0 → false ≡ is_fraction_and_zone k text
unfolding is_fraction_and_zone
no_byte zero text some e = absurd (omega (arith, some))
no_byte (suc k) [] some e = refl
no_byte (suc k) (b ∷ bs) some e = absurd (omega (arith, e))

-- a text that is a zone passes, whatever number of digits is allowed
zone : (k b : ℕ) (bs text : List ℕ) → 1 ≤ k → text ≡ b ∷ bs → is_zone text ≡ true → true ≡ is_fraction_and_zone k text
unfolding is_fraction_and_zone
zone zero b bs text some is e = absurd (omega (arith, some))
zone (suc k) b bs text some is e = let here = rw is at e in rw (is, here) refl

-- the pattern's 9 matches exactly the ASCII digits
fits_digit : (b : ℕ) → matches_byte 57 b ≡ is_ascii_digit b
fits_digit b = refl

-- if the text is no zone and begins with a digit, the rest decides, with one digit fewer allowed
digit : (j k b : ℕ) (bs text : List ℕ) → j + 1 ≡ k → text ≡ b ∷ bs → is_zone text ≡ false → is_ascii_digit b ≡ true
    → is_fraction_and_zone j bs ≡ is_fraction_and_zone k text
unfolding is_fraction_and_zone
digit j zero b bs text next is e d = absurd (omega (arith, next))
digit j (suc k) b bs text next is e d =
    let here = rw is at e in
    let fitting : matches_byte 57 b ≡ true = fits_digit b ∙ d in
    let same : j ≡ k = omega (arith, next) in
    rw (is, here, fitting) (ap (λ n. is_fraction_and_zone n bs) same)

-- a text that is no zone and begins with no digit doesn't pass
no_digit : (k b : ℕ) (bs text : List ℕ) → 1 ≤ k → text ≡ b ∷ bs → is_zone text ≡ false → is_ascii_digit b ≡ false
    → false ≡ is_fraction_and_zone k text
unfolding is_fraction_and_zone
no_digit zero b bs text some is e d = absurd (omega (arith, some))
no_digit (suc k) b bs text some is e d =
    let here = rw is at e in
    let fitting : matches_byte 57 b ≡ false = fits_digit b ∙ d in
    rw (is, here, fitting) refl

pub returns-then-digits-eq0 : goal.returns-then-digits-eq0
returns-then-digits-eq0 t c = c.is_zone.ensures ∙ no_digits c.args.digits c.args.text.now c.if-digits-eq0.true

pub returns-in_default : goal.returns-in_default
returns-in_default t c = no_byte c.args.digits c.args.text.now (omega arith) c.in_default.ensures.cases

pub returns-then-is_zone : goal.returns-then-is_zone
returns-then-is_zone t c =
    c.if-is_zone.true
    ∙ zone c.args.digits c.in-Some.byte.now c.in-Some.bytes.now c.args.text.now (omega arith) c.in-Some.ensures.cases.0 (sym c.is_zone-2.ensures ∙ c.if-is_zone.true)

pub returns-then-is_ascii_digit : goal.returns-then-is_ascii_digit
returns-then-is_ascii_digit t c =
    c.is_fraction_and_zone.ensures
    ∙ digit (c.args.digits - 1) c.args.digits c.in-Some.byte.now c.in-Some.bytes.now c.args.text.now (omega arith) c.in-Some.ensures.cases.0 (sym c.is_zone-2.ensures ∙ c.if-is_zone.false)
    (sym c.is_ascii_digit.ensures.value ∙ c.if-is_ascii_digit.true)

pub returns-else-is_ascii_digit : goal.returns-else-is_ascii_digit
returns-else-is_ascii_digit t c =
    c.if-is_ascii_digit.false
    ∙ no_digit c.args.digits c.in-Some.byte.now c.in-Some.bytes.now c.args.text.now (omega arith) c.in-Some.ensures.cases.0 (sym c.is_zone-2.ensures ∙ c.if-is_zone.false)
    (sym c.is_ascii_digit.ensures.value ∙ c.if-is_ascii_digit.false)
