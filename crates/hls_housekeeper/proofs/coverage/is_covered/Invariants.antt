-- Before each round, the unit is in none of the ranges so far.
use Rattle.std.proofs.Common.{◌≡◌, false, take}
use Rattle.hls_housekeeper.specs.Coverage.{is_covered}
use Rattle.hls_housekeeper.proofs.coverage.is_covered.Given as goal

abbrev pub invariant-loop-range : goal.invariant-loop-range
invariant-loop-range l = is_covered (take l.range-index l.ranges) l.unit ≡ false
