-- Before each round, the pieces before `low` begin at the offset or before it, and those from `high` on begin after it.
-- Each round brings `low` and `high` nearer to each other.
use Rattle.std.proofs.Common.{◌-◌}
use Rattle.hls_journal.proofs.Pieces.{Halves}
use Rattle.hls_journal.proofs.restart.find_piece.Given as goal

abbrev pub invariant-halves : goal.invariant-halves
invariant-halves l = Halves l.pieces l.at l.low l.high

abbrev pub decreases-halves : goal.decreases-halves
decreases-halves l = l.high - l.low
