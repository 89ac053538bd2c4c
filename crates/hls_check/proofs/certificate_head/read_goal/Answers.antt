-- After the rule, the target and the preferred length complete the goal.
-- If one of the two lines is missing or bad, it is the text's first wrong line.
use Rattle.std.proofs.Common.{◌+◌, rules}
use Rattle.hls_check.specs.WrongLines.{IsFirstWrongLine}
use Rattle.hls_check.specs.Stages.{IsReadUpTo, AtTarget, AtPreferred}
use Rattle.hls_check.proofs.Wrongs.{stops, at_preferred, at_renditions}
use Rattle.hls_check.proofs.certificate_head.read_goal.Goals as goal

pub returns-in_err-target-clause-goal : goal.returns-in_err-target-clause-goal
returns-in_err-target-clause-goal c = λ bytes at.
    let wrong : IsFirstWrongLine bytes c.in_err-target.field-0.0.line =
    stops (AtTarget c.args.rule) tt bytes c.args.text.now c.args.lines_read at c.in_err-target.field-0.0.line c.in_err-target.ensures.line in
    search rules

pub returns-in_err-preferred-clause-goal : goal.returns-in_err-preferred-clause-goal
returns-in_err-preferred-clause-goal c = λ bytes at.
    let target : IsReadUpTo (AtPreferred c.args.rule c.in_ok-target.target) bytes c.in_ok-target.after_target.now (c.args.lines_read + 1) =
    at_preferred bytes c.args.text.now c.in_ok-target.after_target.now c.args.rule c.in_ok-target.target c.args.lines_read at c.in_ok-target.ensures.line in
    let wrong : IsFirstWrongLine bytes c.in_err-preferred.field-0.0.line =
    stops (AtPreferred c.args.rule c.in_ok-target.target) tt bytes c.in_ok-target.after_target.now (c.args.lines_read + 1) target
    c.in_err-preferred.field-0.0.line c.in_err-preferred.ensures.line in
    search rules

pub returns-clause-goal : goal.returns-clause-goal
returns-clause-goal c = λ bytes at.
    at_renditions bytes c.in_ok-target.after_target.now c.in_ok-preferred.rest.now c.args.rule c.in_ok-target.target c.in_ok-preferred.preferred c.args.lines_read
    (at_preferred bytes c.args.text.now c.in_ok-target.after_target.now c.args.rule c.in_ok-target.target c.args.lines_read at c.in_ok-target.ensures.line)
    c.in_ok-preferred.ensures.line
