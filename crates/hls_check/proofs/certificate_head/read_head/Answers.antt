-- The rule, the goal and the counts are the whole header, which ends four lines after the version lines.
-- If one of these parts has a wrong line, that is the first of the text.
use Rattle.std.proofs.Common.{ℕ, ◌≡◌, ◌+◌, subst, arith, rules}
use Rattle.hls_check.specs.WrongLines.{IsFirstWrongLine}
use Rattle.hls_check.specs.Stages.{HasHead}
use Rattle.hls_check.proofs.certificate_head.read_head.Goals as goal

four_lines : (lines_read : ℕ) → lines_read + 2 + 2 ≡ lines_read + 4
four_lines lines_read = omega arith

pub returns-in_err-goal-clause-head : goal.returns-in_err-goal-clause-head
returns-in_err-goal-clause-head c =
    let wrong : IsFirstWrongLine c.args.bytes.now c.in_err-goal.field-0.0.line = c.in_err-goal.ensures.goal c.args.bytes.now c.in_ok-rule.ensures.rule in
    search rules

pub returns-in_err-head-clause-head : goal.returns-in_err-head-clause-head
returns-in_err-head-clause-head c =
    let wrong : IsFirstWrongLine c.args.bytes.now c.in_err-head.field-0.0.line =
    c.in_err-head.ensures.head c.args.bytes.now (c.in_ok-goal.ensures.goal c.args.bytes.now c.in_ok-rule.ensures.rule) in
    search rules

pub returns-clause-head : goal.returns-clause-head
returns-clause-head c =
    subst (λ (n : ℕ). HasHead c.args.bytes.now c.in_ok-head.head c.in_ok-head.rest.now n) (four_lines c.in_ok-rule.lines_read)
    (c.in_ok-head.ensures.head c.args.bytes.now (c.in_ok-goal.ensures.goal c.args.bytes.now c.in_ok-rule.ensures.rule))
