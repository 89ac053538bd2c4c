-- After the cost, a plan line is followed by the prices. If the plan line is missing or bad, it is the first wrong line.
use Rattle.std.proofs.lemmas.Bool.{iff_false}
use Rattle.hls_check.proofs.Scans.{AfterPlan, missing_plan, wrong_plan, behind_plan}
use Rattle.hls_check.proofs.wrong_lines.scan_cut.Goals as goal

pub returns-in_default : goal.returns-in_default
returns-in_default c = λ bytes t total count_is at. missing_plan bytes c.args.text.now t total c.args.lines_read at c.in_default.ensures.line

pub returns-else-is_plan_line : goal.returns-else-is_plan_line
returns-else-is_plan_line c = λ bytes t total count_is at.
    wrong_plan bytes c.args.text.now c.in-Some.line.now c.in-Some.after.now t total c.args.lines_read c.args.count count_is at c.in-Some.ensures.line
    (iff_false c.is_plan_line.ensures c.if-is_plan_line.false)

pub returns-then-is_plan_line : goal.returns-then-is_plan_line
returns-then-is_plan_line c = λ bytes t total count_is at.
    let next : AfterPlan bytes c.in-Some.after.now t total c.args.lines_read =
    behind_plan bytes c.args.text.now c.in-Some.line.now c.in-Some.after.now t total c.args.lines_read c.args.count count_is at c.in-Some.ensures.line
    (c.is_plan_line.ensures.0 c.if-is_plan_line.true) in
    c.scan_prices.ensures bytes next.plan t total count_is next.at
