-- The digits are the canonical spelling of a number below 2^53, unless there are none or more than 16, the first of several is a zero,
-- or their value is too large.
use Rattle.std.proofs.Common.{◌≡◌, ◌<◌, ◌≤◌, length, get_or, ◌∙◌, arith}
use Rattle.std.proofs.lemmas.Bool.Decides.{nat_tests}
use Rattle.hls_text.proofs.Decimals.{not_empty, not_long, no_zero_first, its_value, spelling}
use Rattle.hls_text.proofs.number.parse_canonical.Goals as goal
use Rattle.hls_text.proofs.number.parse_canonical.Goals.{else-digits-gt1-via-then-digits-gt1+else-digits-eq48, else-digits-gt1-via-else-digits-gt1}

pub returns-then-is_empty : goal.returns-then-is_empty
returns-then-is_empty c = λ n small is.
    let some : 0 < length c.args.digits.now = not_empty n c.args.digits.now small is in
    grind (arith, nat_tests)

pub returns-then-digits-gt16 : goal.returns-then-digits-gt16
returns-then-digits-gt16 c = λ n small is.
    let few : length c.args.digits.now ≤ 16 = not_long n c.args.digits.now small is in
    absurd (omega arith)

pub returns-then-digits-eq48 : goal.returns-then-digits-eq48
returns-then-digits-eq48 c = λ n small is.
    no_zero_first n c.args.digits.now small is c.if-digits-gt1.true c.if-digits-eq48.true

pub returns-then-value : goal.returns-then-value
returns-then-value c = λ n small is.
    let same : c.decimal_value-value.result ≡ n =
    c.decimal_value-value.ensures ∙ its_value n c.args.digits.now small is in
    absurd (omega arith)

pub returns : goal.returns
returns c =
    let some : 0 < length c.args.digits.now = grind (arith, nat_tests) in
    let first : get_or c.args.digits.now 0 0 ≡ 48 → length c.args.digits.now ≡ 1 =
    λ zero.
    elim c.else-digits-gt1.branch [
      | else-digits-gt1-via-then-digits-gt1+else-digits-eq48 w ↦ absurd (w.if-digits-eq48.false zero)
      | else-digits-gt1-via-else-digits-gt1 w ↦ omega arith
    ] in
    (omega arith, spelling c.args.digits.now c.decimal_value-value.result c.requires some first c.decimal_value-value.ensures (omega arith))
