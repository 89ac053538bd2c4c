-- Before each round, the total and the sum over the remaining rows are the sum over all rows, and one field was counted for each row so far.
use Rattle.hls_media.specs.ColumnLoop.{IsPartialSum}
use Rattle.hls_media.proofs.trun_columns.sum_column.Given as goal

abbrev pub invariant-rows : goal.invariant-rows
invariant-rows l = IsPartialSum l.row l.at (l.count, l.rows) (l.left, l.rest) l.total l.initial.ticks l.ticks

abbrev pub decreases-rows : goal.decreases-rows
decreases-rows l = l.left
