-- Before each round, the sent part of the output is written and the rest waits; no failure was counted. Each round sends at least one byte.
use Rattle.std.proofs.Common.{◌≡◌, List, ℕ, Some, length}
use Rattle.hls_io.specs.Counted.{failures_of, inner_of}
use Rattle.hls_http.proofs.SendLaws.{Sent}
use Rattle.hls_http.proofs.session.write_output.Given as goal

abbrev pub invariant-loop-output : goal.invariant-loop-output
invariant-loop-output g l = record {
  sent : (held : List ℕ) → g.W.Write.contents (inner_of l.initial.writer) ≡ Some held → Sent held l.fn.output l.output (g.W.Write.contents (inner_of l.writer));
  quiet : failures_of l.writer ≡ failures_of l.initial.writer;
}

abbrev pub decreases-loop-output : goal.decreases-loop-output
decreases-loop-output g l = length l.output
