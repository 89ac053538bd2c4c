-- If the next line isn't a plan line of the table, it is a wrong line.
use Rattle.hls_check.specs.Stages.{IsPlanLine}
use Rattle.hls_check.proofs.LineKinds.{line_refused}
use Rattle.hls_check.proofs.next_line.next_plan.Goals as goal

pub returns-in_default-2-clause-line : goal.returns-in_default-2-clause-line
returns-in_default-2-clause-line c =
    line_refused (IsPlanLine c.args.count) c.args.rest.now c.in-Some.line.now c.in-Some.after.now c.args.lines_read c.in-Some.ensures.line
    (rw c.in_default-2.is at c.in_ok-plan.ensures)
