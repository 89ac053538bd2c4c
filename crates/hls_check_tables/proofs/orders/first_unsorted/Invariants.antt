-- Before each round, all places so far are in order.
use Rattle.std.proofs.Common.{ℕ, ◌<◌}
use Rattle.hls_check_tables.specs.Orders.{IsInOrder}
use Rattle.hls_check_tables.proofs.orders.first_unsorted.Given as goal

abbrev pub invariant-loop-p : goal.invariant-loop-p
invariant-loop-p l = (before : ℕ) → before < l.p → IsInOrder l.table.renditions l.table.places before
