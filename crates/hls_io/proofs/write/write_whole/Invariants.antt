-- Before each round, all of the text but the rest is written, and no failure was counted. Each round writes at least one byte.
use Rattle.std.proofs.Common.{◌≡◌, ℕ, List, Some, length}
use Rattle.hls_io.{specs.Counted.{failures_of, inner_of}, proofs.WriteLaws.Writing}
use Rattle.hls_io.proofs.write.write_whole.Given as goal

abbrev pub invariant-loop-rest : goal.invariant-loop-rest
invariant-loop-rest g l = record {
  writing : (held : List ℕ) → g.W.Write.contents (inner_of l.initial.output) ≡ Some held → Writing held l.text l.rest (g.W.Write.contents (inner_of l.output));
  quiet : failures_of l.output ≡ failures_of l.initial.output;
}

abbrev pub decreases-loop-rest : goal.decreases-loop-rest
decreases-loop-rest g l = length l.rest
