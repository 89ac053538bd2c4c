-- Before each round, the count is that of the units so far that are in none of the ranges; it is at most their number.
use Rattle.std.proofs.Common.{◌≡◌, ◌≤◌, take}
use Rattle.hls_housekeeper.specs.Coverage.{count_uncovered}
use Rattle.hls_housekeeper.proofs.coverage.count_uncovered.Given as goal

abbrev pub invariant-loop-unit : goal.invariant-loop-unit
invariant-loop-unit l = record { counted : l.count ≡ count_uncovered l.ranges (take l.unit-index l.units); few : l.count ≤ l.unit-index }
