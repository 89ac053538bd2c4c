-- By whether the pattern or the text is empty, and whether the first byte matches.
use Rattle.std.proofs.Common.{◌≡◌, ℕ, true, false, List, [], ◌∷◌, length, Some, None, refl, sym, ◌∙◌, arith}
use Rattle.hls_instants.specs.Pattern.{matches_byte, rest_after_pattern}
use Rattle.hls_instants.proofs.pattern.+strip_pattern.Goals as goal

-- an empty pattern leaves the whole text
no_place : (pattern text : List ℕ) → length pattern ≡ 0 → Some text ≡ rest_after_pattern pattern text
unfolding rest_after_pattern
no_place [] text e = refl
no_place (p ∷ ps) text e = absurd (omega (arith, e))

-- an empty text doesn't begin with a pattern that isn't empty
no_byte : (p : ℕ) (ps pattern text : List ℕ) → pattern ≡ p ∷ ps → length text ≡ 0 → None ≡ rest_after_pattern pattern text
unfolding rest_after_pattern
no_byte p ps pattern [] is e = rw is refl
no_byte p ps pattern (b ∷ bs) is e = absurd (omega (arith, e))

-- if the first byte matches, the rest of the text after the rest of the pattern is what is left
fitting : (p b : ℕ) (ps bs pattern text : List ℕ) → pattern ≡ p ∷ ps → text ≡ b ∷ bs → matches_byte p b ≡ true
    → rest_after_pattern ps bs ≡ rest_after_pattern pattern text
unfolding rest_after_pattern
fitting p b ps bs pattern text place byte e = rw (place, byte, e) refl

-- if the first byte doesn't match, the text doesn't begin with the pattern
not_fitting : (p b : ℕ) (ps bs pattern text : List ℕ) → pattern ≡ p ∷ ps → text ≡ b ∷ bs → matches_byte p b ≡ false
    → None ≡ rest_after_pattern pattern text
unfolding rest_after_pattern
not_fitting p b ps bs pattern text place byte e = rw (place, byte, e) refl

pub returns-in_default : goal.returns-in_default
returns-in_default t c = no_place c.args.pattern.now c.args.text.now c.in_default.ensures.cases

pub returns-in_default-split_first : goal.returns-in_default-split_first
returns-in_default-split_first t c =
    no_byte c.in-Some.place.now c.in-Some.places.now c.args.pattern.now c.args.text.now c.in-Some.ensures.cases.0 c.in_default-split_first.ensures.cases

pub returns-then-matches_byte : goal.returns-then-matches_byte
returns-then-matches_byte t c =
    c.strip_pattern.ensures
    ∙ fitting c.in-Some.place.now c.in-Some-split_first.byte.now c.in-Some.places.now c.in-Some-split_first.bytes.now c.args.pattern.now c.args.text.now
    c.in-Some.ensures.cases.0 c.in-Some-split_first.ensures.cases.0 (sym c.matches_byte.ensures ∙ c.if-matches_byte.true)

pub returns-else-matches_byte : goal.returns-else-matches_byte
returns-else-matches_byte t c =
    not_fitting c.in-Some.place.now c.in-Some-split_first.byte.now c.in-Some.places.now c.in-Some-split_first.bytes.now c.args.pattern.now c.args.text.now
    c.in-Some.ensures.cases.0 c.in-Some-split_first.ensures.cases.0 (sym c.matches_byte.ensures ∙ c.if-matches_byte.false)
