-- Before each round, the end found is the least one of the renditions so far whose encoders are there.
use Rattle.std.proofs.Common.{◌≡◌}
use Rattle.hls_housekeeper.specs.Away.{least_end}
use Rattle.hls_housekeeper.proofs.away.least_end.Given as goal

abbrev pub invariant-loop-rendition : goal.invariant-loop-rendition
invariant-loop-rendition l = l.least ≡ least_end l.snapshot l.silent l.rendition
