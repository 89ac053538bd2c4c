-- Before each round, to continue with what was collected over the remaining boxes gives what the whole `moov` gives. The rest gets shorter.
use Rattle.std.proofs.Common.{length}
use Rattle.hls_media.specs.MoovSteps.{HasCollectedTracks}
use Rattle.hls_media.proofs.moov.collect_tracks.Given as goal

abbrev pub invariant-boxes : goal.invariant-boxes
invariant-boxes l = HasCollectedTracks l.moov l.ids l.tracks l.mvex l.rest

abbrev pub decreases-boxes : goal.decreases-boxes
decreases-boxes l = length l.rest
