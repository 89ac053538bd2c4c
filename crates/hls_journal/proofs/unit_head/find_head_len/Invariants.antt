-- Before each round, whole boxes precede `at`, and if the unit has a head, its `mdat` comes later. Each round comes nearer to the unit's end.
use Rattle.std.proofs.Common.{◌-◌, length}
use Rattle.hls_journal.proofs.NoHead.{Searches}
use Rattle.hls_journal.proofs.unit_head.find_head_len.Given as goal

abbrev pub invariant-boxes : goal.invariant-boxes
invariant-boxes l = Searches l.unit l.at

abbrev pub decreases-boxes : goal.decreases-boxes
decreases-boxes l = length l.unit - l.at
