-- Before each round, the remaining boxes and the `moof` that was found, if any, determine the layout of the whole unit. The rest gets shorter.
use Rattle.std.proofs.Common.{length}
use Rattle.hls_media.specs.UnitLayout.{HasScannedUnit}
use Rattle.hls_media.proofs.unit.find_layout.Given as goal

abbrev pub invariant-boxes : goal.invariant-boxes
invariant-boxes l = HasScannedUnit l.unit l.met l.rest l.initial.ticks l.ticks

abbrev pub decreases-boxes : goal.decreases-boxes
decreases-boxes l = length l.rest
