-- Before each round, no sync point that begins before `at` names a byte after the place. Each round comes nearer to the text's end.
use Rattle.std.proofs.Common.{◌-◌, length}
use Rattle.hls_journal_log.proofs.Places.{NoneSoFar}
use Rattle.hls_journal_log.proofs.sync_point.has_sync_point_beyond.Given as goal

abbrev pub invariant-places : goal.invariant-places
invariant-places l = NoneSoFar l.place l.text l.at

abbrev pub decreases-places : goal.decreases-places
decreases-places l = length l.text - l.at
