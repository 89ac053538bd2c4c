-- Each round adds the presence of one more rendition's encoder to those that are right.
use Rattle.std.proofs.Common.{arith}
use Rattle.hls_api.proofs.JumpSteps.{presences_next}
use Rattle.hls_api.proofs.encoder_readings.find_presences.Goals as goal

pub loop-other-preserved : goal.loop-other-preserved
loop-other-preserved c =
    presences_next c.args.snapshot.now c.args.rendition c.args.readings.now c.loop-other.presences c.presence.result c.loop-other.other c.presence.ensures
    (omega (arith, c.loop-other-test.true)) c.loop-other.invariant
