-- Before each round, every rendition examined so far allows the step from place p to place q.
use Rattle.std.proofs.Common.{ℕ, ◌<◌}
use Rattle.hls_check_tables.specs.Tables.{spot_in, place_at}
use Rattle.hls_check_tables.specs.Steps.{IsSpotStep}
use Rattle.hls_check.proofs.steps.first_refusing_rendition.Given as goal

abbrev pub invariant-loop-r : goal.invariant-loop-r
invariant-loop-r l =
    (k : ℕ) → k < l.r →
    IsSpotStep l.table.goal.target (spot_in (place_at l.table.places l.p) k) (spot_in (place_at l.table.places l.q) k)
