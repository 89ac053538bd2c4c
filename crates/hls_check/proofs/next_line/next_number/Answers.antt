-- The line is wrong if its number is out of range, or if it isn't the word and a number.
use Rattle.std.proofs.Common.{◌<◌, ◌≤◌, inl, inr, arith}
use Rattle.hls_text.specs.Numbers.{number_line}
use Rattle.hls_check.specs.Stages.{IsNumberLine}
use Rattle.hls_check.proofs.LineKinds.{line_refused, out_of_range}
use Rattle.hls_check.proofs.next_line.next_number.Goals as goal

pub returns-then-number-low-clause-line : goal.returns-then-number-low-clause-line
returns-then-number-low-clause-line c =
    out_of_range c.args.word.now c.args.rest.now c.in-Some.line.now c.in-Some.after.now c.in-Some-parse_number_line.number c.args.low c.args.high c.args.lines_read
    c.in-Some.ensures.line c.in-Some-parse_number_line.ensures c.requires.range
    (λ range. let above : c.args.low ≤ c.in-Some-parse_number_line.number = range.0 in
    let within : c.in-Some-parse_number_line.number ≤ c.args.high = range.1 in
    elim c.then-number-low.either [
      | inl low ↦ (let below : c.in-Some-parse_number_line.number < c.args.low = low in omega arith)
      | inr high ↦ (let past : c.args.high < c.in-Some-parse_number_line.number = high.1 in omega arith)
    ])

pub returns-in_default-parse_number_line-clause-line : goal.returns-in_default-parse_number_line-clause-line
returns-in_default-parse_number_line-clause-line c =
    line_refused (IsNumberLine (number_line c.args.word.now) (λ n. (c.args.low ≤ n) × (n ≤ c.args.high)))
    c.args.rest.now c.in-Some.line.now c.in-Some.after.now c.args.lines_read c.in-Some.ensures.line
    (λ good.
    let small : good.number ≤ c.args.high = good.good.1 in
    c.in_default-parse_number_line.ensures good.number (omega (arith, c.requires.range)) good.is)
