-- A line that isn't `closed` with one number is no line of the closed set.
-- Neither is one whose place is too low, or isn't in the table.
use Rattle.hls_check.proofs.LineKinds.{no_closed, closed_too_low, closed_too_far}
use Rattle.hls_check.proofs.line.parse_closed.Goals as goal

pub returns-in-None : goal.returns-in-None
returns-in-None c = no_closed c.args.line.now c.args.low c.args.count c.requires c.in-None.ensures

pub returns-then-place-low : goal.returns-then-place-low
returns-then-place-low c =
    closed_too_low c.args.line.now c.args.low c.args.count c.in-Some.place c.requires c.if-place-low.true c.in-Some.ensures

pub returns-then-place-count : goal.returns-then-place-count
returns-then-place-count c =
    closed_too_far c.args.line.now c.args.low c.args.count c.in-Some.place c.requires c.if-place-count.true c.in-Some.ensures
