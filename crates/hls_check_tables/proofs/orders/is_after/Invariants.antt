-- Before each round, in each rendition so far the later place's fragment isn't before the earlier place's.
use Rattle.std.proofs.Common.{ℕ, ◌<◌, ◌≤◌}
use Rattle.hls_check_tables.specs.Tables.{spot_in}
use Rattle.hls_check_tables.proofs.orders.is_after.Given as goal

abbrev pub invariant-loop-r : goal.invariant-loop-r
invariant-loop-r l = (r : ℕ) → r < l.r → (spot_in l.earlier r).fragment ≤ (spot_in l.later r).fragment
