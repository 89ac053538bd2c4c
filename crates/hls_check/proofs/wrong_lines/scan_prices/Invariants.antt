-- Before each round, the lines so far are price lines of places below `low`, by increasing place. The rest gets shorter in each round.
use Rattle.std.proofs.Common.{length}
use Rattle.hls_check.proofs.Scans.{PricesPassed}
use Rattle.hls_check.proofs.wrong_lines.scan_prices.Given as goal

abbrev pub invariant-loop-line : goal.invariant-loop-line
invariant-loop-line l = PricesPassed l.count l.fn.text l.fn.first l.low l.rest l.lines_read

abbrev pub decreases-loop-line : goal.decreases-loop-line
decreases-loop-line l = length l.rest
