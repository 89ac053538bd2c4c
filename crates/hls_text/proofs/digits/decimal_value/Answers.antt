-- No step overflows: at most 16 digits give a number that fits in 64 bits, and no digit's byte is below that of `0`.
-- After one more digit the value is still that of the digits so far.
use Rattle.std.proofs.Common.{arith}
use Rattle.hls_text.proofs.Decimals.{value_small, digit_low, value_more}
use Rattle.hls_text.proofs.digits.decimal_value.Goals as goal

pub overflow_mul-value : goal.overflow_mul-value
overflow_mul-value c =
    omega (arith, value_small c.args.digits.now c.loop-digit.digit-index c.loop-digit.value c.requires.digits c.requires.few c.loop-digit.invariant)

pub overflow_sub-digit : goal.overflow_sub-digit
overflow_sub-digit c = (digit_low c.args.digits.now c.loop-digit.digit-index c.requires.digits c.loop-digit-test.true).0

pub overflow_add-value : goal.overflow_add-value
overflow_add-value c =
    omega (
      arith,
      value_small c.args.digits.now c.loop-digit.digit-index c.loop-digit.value c.requires.digits c.requires.few c.loop-digit.invariant,
      digit_low c.args.digits.now c.loop-digit.digit-index c.requires.digits c.loop-digit-test.true,
    )

pub loop-digit-preserved : goal.loop-digit-preserved
loop-digit-preserved c =
    value_more c.args.digits.now c.loop-digit.digit-index c.loop-digit.value c.from.result c.requires.digits c.loop-digit-test.true c.loop-digit.invariant c.from.ensures
