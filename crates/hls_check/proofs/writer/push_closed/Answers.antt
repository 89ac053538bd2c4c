-- After the last round, the lines of the closed set are appended. Each round appends the line of one place, if it is in the set.
use Rattle.hls_check.proofs.Written.{closed_text, closed_cons, closed_nil, each_more, each_done}
use Rattle.std.proofs.Common.{false, arith, ◌++◌}
use Rattle.hls_check.proofs.writer.push_closed.Goals as goal

pub loop-place-preserved : goal.loop-place-preserved
loop-place-preserved c =
    each_more closed_text false closed_cons c.args.closed.now c.loop-place.place c.loop-place.out.items c.push_closed_place.new.out.items (c.args.out.now.items ++ closed_text 0 c.args.closed.now)
    c.loop-place-test.true c.in_ok-push_closed_place.ensures c.loop-place.invariant

pub returns : goal.returns
returns c =
    each_done closed_text closed_nil c.args.closed.now c.loop-place.place c.loop-place.out.items (c.args.out.now.items ++ closed_text 0 c.args.closed.now) (omega arith) c.loop-place.invariant
