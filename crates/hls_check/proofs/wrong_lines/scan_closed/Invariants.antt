-- Before each round, the lines so far are those of a closed set, all of whose places are below `low`. The rest gets shorter in each round.
use Rattle.std.proofs.Common.{length}
use Rattle.hls_check.proofs.Scans.{ClosedPassed}
use Rattle.hls_check.proofs.wrong_lines.scan_closed.Given as goal

abbrev pub invariant-loop-line : goal.invariant-loop-line
invariant-loop-line l = ClosedPassed l.count l.fn.text l.fn.first l.low l.rest l.lines_read

abbrev pub decreases-loop-line : goal.decreases-loop-line
decreases-loop-line l = length l.rest
