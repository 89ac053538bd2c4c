-- Before each round, the text so far and the rows of the remaining counts of requests are the text of all rows.
use Rattle.std.proofs.Common.{◌≡◌, ◌++◌, drop}
use Rattle.hls_metrics.specs.Measurements.{request_rows_from}
use Rattle.hls_metrics.proofs.measured_metrics.push_request_rows.Given as goal

-- the rows so far and those of the counts left are all
abbrev pub invariant-loop-number : goal.invariant-loop-number
invariant-loop-number l = l.out.items ++ request_rows_from l.number (drop l.number l.counts) ≡ l.initial.out.items ++ request_rows_from 0 l.counts
