-- Before each round, in the renditions so far neither the ends nor the gap counts decrease from the earlier place to the later one.
use Rattle.hls_check_tables.specs.Orders.{IsRising}
use Rattle.hls_check_tables.proofs.orders.is_rising.Given as goal

abbrev pub invariant-loop-r : goal.invariant-loop-r
invariant-loop-r l = IsRising l.r l.earlier l.later
