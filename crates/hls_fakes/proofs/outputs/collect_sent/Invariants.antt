-- The output that remains to be sent gets shorter in each round.
use Rattle.std.proofs.Common.{length}
use Rattle.hls_fakes.proofs.outputs.collect_sent.Given as goal

abbrev pub decreases-loop-output : goal.decreases-loop-output
decreases-loop-output g l = length l.output
