-- Before each round, the output with the lines of the remaining places is the earlier output with the lines of the closed set.
use Rattle.std.proofs.Common.{◌≡◌, ◌++◌, drop}
use Rattle.hls_check.proofs.Written.{closed_text}
use Rattle.hls_check.proofs.writer.push_closed.Given as goal

abbrev pub invariant-loop-place : goal.invariant-loop-place
invariant-loop-place l = l.out.items ++ closed_text l.place (drop l.place l.closed) ≡ l.initial.out.items ++ closed_text 0 l.closed
