-- Before each round, no rendition so far has a gap between the two places.
use Rattle.std.proofs.Common.{ℕ, ◌<◌, ◌≤◌}
use Rattle.hls_check_tables.specs.Tables.{spot_in}
use Rattle.hls_check_tables.proofs.place_table.is_past_gap.Given as goal

abbrev pub invariant-loop-r : goal.invariant-loop-r
invariant-loop-r l = (r : ℕ) → r < l.r → (spot_in l.to r).run_in ≤ (spot_in l.from r).run_out
