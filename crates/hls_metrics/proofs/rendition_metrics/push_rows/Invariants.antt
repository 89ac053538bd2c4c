-- Before each round, the text so far and a metric's rows of the remaining renditions are the text of all rows.
use Rattle.std.proofs.Common.{◌≡◌, ◌++◌, drop}
use Rattle.hls_metrics.specs.Metrics.{rows_from}
use Rattle.hls_metrics.proofs.rendition_metrics.push_rows.Given as goal

-- the rows so far and those of the renditions left are all
abbrev pub invariant-loop-number : goal.invariant-loop-number
invariant-loop-number l =
    l.out.items ++ rows_from l.metric l.snapshot l.measured l.number (drop l.number l.renditions) ≡ l.initial.out.items ++ rows_from l.metric l.snapshot l.measured 0 l.renditions
