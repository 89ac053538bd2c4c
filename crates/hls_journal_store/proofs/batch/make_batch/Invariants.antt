-- Before each round, the batch has the records of the entries from the journal's position up to its own.
-- Each round comes nearer to the batch's end.
use Rattle.std.proofs.Common.{◌-◌, ◌≤◌}
use Rattle.std.specs.Prelude.{max}
use Rattle.hls_journal_store.specs.Batches.{IsBatch}
use Rattle.hls_journal_store.proofs.batch.make_batch.Given as goal

abbrev pub invariant-entries : goal.invariant-entries
invariant-entries l = IsBatch l.snapshot l.from l.batch × (l.batch.position.version ≤ max l.from.version l.end)

abbrev pub decreases-entries : goal.decreases-entries
decreases-entries l = l.end - l.batch.position.version
