-- A text that is empty, too long or not only digits has no number. Any other text has the value of its digits.
use Rattle.std.proofs.Common.{◌∙◌, ap, arith, sym, Some}
use Rattle.std.proofs.lemmas.Bool.Decides.{nat_tests}
use Rattle.hls_text.proofs.Wholes.{bad_number, good_number, long_number, no_number, numerals}
use Rattle.hls_text.proofs.digits.parse_digits.Goals as goal
use Rattle.hls_text.proofs.digits.parse_digits.Goals.{then-is_empty-via-then-is_empty, then-is_empty-via-else-is_empty+then-text-most, then-is_empty-via-else-is_empty+else-text-most+then-not-are_digits}

pub returns-then-is_empty : goal.returns-then-is_empty
returns-then-is_empty c = elim c.then-is_empty.branch [
  | then-is_empty-via-then-is_empty w ↦ no_number c.args.most c.args.text.now (grind arith)
  | then-is_empty-via-else-is_empty+then-text-most w ↦ long_number c.args.most c.args.text.now (omega arith)
  | then-is_empty-via-else-is_empty+else-text-most+then-not-are_digits w ↦ bad_number c.args.most c.args.text.now (sym w.are_digits.ensures ∙ w.if-not-are_digits.true)
]

pub decimal_value-requires-clause-digits : goal.decimal_value-requires-clause-digits
decimal_value-requires-clause-digits c = numerals.to c.args.text.now (sym c.are_digits.ensures ∙ c.if-not-are_digits.false)

pub returns : goal.returns
returns c =
    ap Some c.decimal_value.ensures
    ∙ good_number c.args.most c.args.text.now (grind (arith, nat_tests)) (omega arith) (sym c.are_digits.ensures ∙ c.if-not-are_digits.false)
