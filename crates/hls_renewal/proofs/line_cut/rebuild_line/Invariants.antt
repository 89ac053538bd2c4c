-- Before each round, the line is that of the first n common places of the channel, with no segment removed.
use Rattle.std.proofs.Common.{◌≡◌}
use Rattle.hls_core_laws.specs.Line.{line_goal_of}
use Rattle.hls_core_laws.specs.Places.{places}
use Rattle.hls_renewal.proofs.RebuiltLines.{line_to}
use Rattle.hls_renewal.proofs.line_cut.rebuild_line.Given as goal

abbrev pub invariant-loop-n : goal.invariant-loop-n
invariant-loop-n l = l.whole ≡ line_to (line_goal_of l.snapshot.config) (places l.snapshot) l.n
