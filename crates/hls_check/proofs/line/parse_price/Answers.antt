-- A line that isn't `price` with two numbers is no price line. Neither is one whose place is too low, or isn't in the table.
use Rattle.hls_check.proofs.LineKinds.{no_price, price_too_low, price_too_far}
use Rattle.hls_check.proofs.line.parse_price.Goals as goal

pub returns-in-None : goal.returns-in-None
returns-in-None c = no_price c.args.line.now c.args.low c.args.count c.requires c.in-None.ensures

pub returns-then-place-low : goal.returns-then-place-low
returns-then-place-low c =
    price_too_low c.args.line.now c.args.low c.args.count c.in-Some.place c.in-Some.price c.requires c.if-place-low.true c.in-Some.ensures

pub returns-then-place-count : goal.returns-then-place-count
returns-then-place-count c =
    price_too_far c.args.line.now c.args.low c.args.count c.in-Some.place c.in-Some.price c.requires c.if-place-count.true c.in-Some.ensures
