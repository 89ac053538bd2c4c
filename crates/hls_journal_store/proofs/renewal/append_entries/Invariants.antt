-- The loop ends: each round appends the records of some more entries.
use Rattle.std.proofs.Common.{◌-◌, ◌≤◌, length}
use Rattle.hls_journal_store.proofs.renewal.append_entries.Given as goal

abbrev pub decreases-rounds : goal.decreases-rounds
decreases-rounds g l = length l.renewed.log - l.position.version
