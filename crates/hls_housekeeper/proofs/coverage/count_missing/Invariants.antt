-- Before each round, the count is that of the units so far that aren't among the places' units; it is at most their number.
use Rattle.std.proofs.Common.{◌≡◌, ◌≤◌, take}
use Rattle.hls_housekeeper.specs.Coverage.{count_missing}
use Rattle.hls_housekeeper.proofs.coverage.count_missing.Given as goal

abbrev pub invariant-loop-unit : goal.invariant-loop-unit
invariant-loop-unit l = record { counted : l.count ≡ count_missing l.places (take l.unit-index l.units); few : l.count ≤ l.unit-index }
