-- Each round adds one more place as it is once the body left it; at the end these are all.
use Rattle.std.proofs.Common.{arith}
use Rattle.hls_rates.proofs.LeftPlaces.{left_next}
use Rattle.hls_rates.proofs.places.left_places.Goals as goal

pub loop-index-preserved : goal.loop-index-preserved
loop-index-preserved c =
    left_next c.args.ticket c.args.now_ms c.loop-index.left c.args.places c.left_by.result c.loop-index.index c.left_by.ensures
    (omega (arith, c.loop-index-test.true)) c.loop-index.invariant
