-- Before each round, the text up to `at` consists of the records that were read, and `number` is that of the next one.
-- Each round comes nearer to the text's end.
use Rattle.std.proofs.Common.{◌-◌, length}
use Rattle.hls_journal_log.proofs.Steps.{HasRead}
use Rattle.hls_journal_log.proofs.read.read_records.Given as goal

abbrev pub invariant-records : goal.invariant-records
invariant-records l = HasRead l.first l.number l.at l.text l.bodies.items

abbrev pub decreases-records : goal.decreases-records
decreases-records l = length l.text - l.at
