-- Before each round, the bytes so far and the frame as often as it is still missing are the frame as often as given.
use Rattle.std.proofs.Common.{◌≡◌, ◌++◌, replicate}
use Rattle.std.specs.List.{concat}
use Rattle.hls_mend.proofs.fillers.repeat_frame.Given as goal

abbrev pub invariant-frames : goal.invariant-frames
invariant-frames l = l.bytes.items ++ concat (replicate l.left l.frame) ≡ concat (replicate l.times l.frame)

abbrev pub decreases-frames : goal.decreases-frames
decreases-frames l = l.left
