-- By whether the text after the seconds is a zone, or begins with a point and a digit.
use Rattle.std.proofs.Common.{◌≡◌, true, false, ℕ, List, Option, Some, None, refl, sym, ◌∙◌}
use Rattle.std.specs.Prelude.{codes}
use Rattle.hls_instants.specs.Pattern.{rest_after_pattern, is_zone, is_after_point, is_after_seconds}
use Rattle.hls_instants.proofs.pattern.has_shape.Goals as goal

-- if the text after the seconds is a zone, the whole text has the shape
zone : (o : Option (List ℕ)) (rest : List ℕ) → Some rest ≡ o → is_zone rest ≡ true → true ≡ is_after_seconds o
zone o rest is e = rw (← is, e) refl

-- if the text after the seconds is no zone, what follows a point and a digit decides
fraction : (o more : Option (List ℕ)) (rest : List ℕ) → Some rest ≡ o → is_zone rest ≡ false → more ≡ rest_after_pattern (codes ".9") rest
    → is_after_point more ≡ is_after_seconds o
fraction o more rest is e behind = rw (← is, e, behind) refl

pub returns-then-is_zone : goal.returns-then-is_zone
returns-then-is_zone c =
    zone (rest_after_pattern (codes "9999-99-99T99:99:59") c.args.text.now) c.in-Some.rest.now c.in-Some.ensures (sym c.is_zone.ensures ∙ c.if-is_zone.true)

pub returns-in-None : goal.returns-in-None
returns-in-None c =
    fraction (rest_after_pattern (codes "9999-99-99T99:99:59") c.args.text.now) None c.in-Some.rest.now c.in-Some.ensures (sym c.is_zone.ensures ∙ c.if-is_zone.false)
    c.in-None.ensures

pub returns-in-Some-strip_pattern : goal.returns-in-Some-strip_pattern
returns-in-Some-strip_pattern c =
    c.is_fraction_and_zone.ensures
    ∙ fraction (rest_after_pattern (codes "9999-99-99T99:99:59") c.args.text.now) (Some c.in-Some-strip_pattern.more.now) c.in-Some.rest.now c.in-Some.ensures
    (sym c.is_zone.ensures ∙ c.if-is_zone.false) c.in-Some-strip_pattern.ensures
