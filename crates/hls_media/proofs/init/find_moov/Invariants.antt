-- Before each round, the `moov` of the remaining boxes is the one of the whole init section. The rest gets shorter.
use Rattle.std.proofs.Common.{length}
use Rattle.hls_media.specs.UnitLayout.{HasScannedInit}
use Rattle.hls_media.proofs.init.find_moov.Given as goal

abbrev pub invariant-boxes : goal.invariant-boxes
invariant-boxes l = HasScannedInit l.bytes l.rest

abbrev pub decreases-boxes : goal.decreases-boxes
decreases-boxes l = length l.rest
