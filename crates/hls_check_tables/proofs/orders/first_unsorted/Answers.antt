-- A place that passes the test is in order, so with it all places so far are.
use Rattle.std.proofs.Common.{below_more}
use Rattle.hls_check_tables.proofs.orders.first_unsorted.Goals as goal

pub loop-p-preserved : goal.loop-p-preserved
loop-p-preserved c = below_more _ _ c.loop-p.invariant (c.is_in_order.ensures.0 c.if-not-is_in_order.false)
