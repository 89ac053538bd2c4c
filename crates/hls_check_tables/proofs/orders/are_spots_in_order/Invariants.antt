-- Before each round, the spots of the renditions so far are in order.
use Rattle.std.proofs.Common.{ℕ, ◌<◌}
use Rattle.hls_check_tables.specs.Tables.{spot_in}
use Rattle.hls_check_tables.specs.Orders.{IsSpotInOrder}
use Rattle.hls_check_tables.proofs.orders.are_spots_in_order.Given as goal

abbrev pub invariant-loop-r : goal.invariant-loop-r
invariant-loop-r l = (r : ℕ) → r < l.r → IsSpotInOrder (spot_in l.place r)
