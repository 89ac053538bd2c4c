-- After the last round, the numbers of all places are appended, each after a space. Each round appends one.
use Rattle.std.proofs.Common.{arith, ◌++◌}
use Rattle.hls_text.specs.Numbers.{spaced_numbers}
use Rattle.hls_check.proofs.Written.{plan_more, plan_done}
use Rattle.hls_check.proofs.writer.push_more_places.Goals as goal

pub loop-place-preserved : goal.loop-place-preserved
loop-place-preserved c =
    plan_more c.args.places.now c.loop-place.place-index c.loop-place.out.items c.push_space_and_number.new.out.items
    (c.args.out.now.items ++ spaced_numbers c.args.places.now) c.loop-place-test.true c.in_ok-push_space_and_number.ensures c.loop-place.invariant

pub returns : goal.returns
returns c =
    plan_done c.args.places.now c.loop-place.place-index c.loop-place.out.items (c.args.out.now.items ++ spaced_numbers c.args.places.now)
    (omega arith) c.loop-place.invariant
