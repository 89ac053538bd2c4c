-- Before each round, the samples are the frames so far.
use Rattle.std.proofs.Common.{◌≡◌}
use Rattle.hls_mend_laws.specs.Fillers.{whole_frames}
use Rattle.hls_mend.proofs.fillers.make_whole_frames.Given as goal

abbrev pub invariant-loop-done : goal.invariant-loop-done
invariant-loop-done l = l.samples.items ≡ whole_frames l.length l.size l.done
