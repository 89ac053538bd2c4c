-- Before each round, the text so far and the rows of the remaining counts of refusals are the text of all rows.
use Rattle.std.proofs.Common.{◌≡◌, ◌++◌, drop}
use Rattle.hls_metrics.specs.Refusals.{refusal_rows_from}
use Rattle.hls_metrics.proofs.refusal_metrics.push_refusal_rows.Given as goal

-- the rows so far and those of the counts left are all
abbrev pub invariant-loop-number : goal.invariant-loop-number
invariant-loop-number l = l.out.items ++ refusal_rows_from l.number (drop l.number l.counts) ≡ l.initial.out.items ++ refusal_rows_from 0 l.counts
