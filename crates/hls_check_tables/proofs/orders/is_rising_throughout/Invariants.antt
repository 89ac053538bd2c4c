-- Before each round, neither ends nor gap counts decrease from a place to the next, for all pairs of neighbours so far.
use Rattle.std.proofs.Common.{ℕ, ◌+◌, ◌<◌}
use Rattle.hls_check_tables.specs.Tables.{place_at}
use Rattle.hls_check_tables.specs.Orders.{IsRising}
use Rattle.hls_check_tables.proofs.orders.is_rising_throughout.Given as goal

abbrev pub invariant-loop-p : goal.invariant-loop-p
invariant-loop-p l =
    (before : ℕ) → before + 1 < l.p →
    IsRising l.table.renditions (place_at l.table.places before) (place_at l.table.places (before + 1))
