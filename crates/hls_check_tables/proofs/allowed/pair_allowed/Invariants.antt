-- Before each round, in each rendition so far the spots of the two places may begin and end one segment.
use Rattle.std.proofs.Common.{ℕ, ◌<◌}
use Rattle.hls_check_tables.specs.Tables.{spot_in}
use Rattle.hls_check_tables.specs.Steps.{IsSpotStep}
use Rattle.hls_check_tables.proofs.allowed.pair_allowed.Given as goal

abbrev pub invariant-loop-r : goal.invariant-loop-r
invariant-loop-r l = (r : ℕ) → r < l.r → IsSpotStep l.target (spot_in l.from r) (spot_in l.to r)
