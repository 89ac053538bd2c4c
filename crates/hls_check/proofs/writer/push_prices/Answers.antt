-- After the last round, all price lines are appended. Each round appends the line of one place, if it has a price.
use Rattle.hls_check.proofs.Written.{prices_text, prices_cons, prices_nil, each_more, each_done}
use Rattle.std.proofs.Common.{None, arith, ◌++◌}
use Rattle.hls_check.proofs.writer.push_prices.Goals as goal

pub loop-place-preserved : goal.loop-place-preserved
loop-place-preserved c =
    each_more prices_text None prices_cons c.args.prices.now c.loop-place.place c.loop-place.out.items c.push_optional_price.new.out.items (c.args.out.now.items ++ prices_text 0 c.args.prices.now)
    c.loop-place-test.true c.in_ok-push_optional_price.ensures c.loop-place.invariant

pub returns : goal.returns
returns c =
    each_done prices_text prices_nil c.args.prices.now c.loop-place.place c.loop-place.out.items (c.args.out.now.items ++ prices_text 0 c.args.prices.now) (omega arith) c.loop-place.invariant
