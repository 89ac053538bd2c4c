-- Each round adds the record of one more log entry, and stays within the batch's end.
use Rattle.std.proofs.Common.{arith}
use Rattle.hls_journal_store.proofs.Batches.{batch_more}
use Rattle.hls_journal_store.proofs.batch.make_batch.Goals as goal

pub entries-preserved : goal.entries-preserved
entries-preserved c =
    let more = batch_more c.args.snapshot.now c.args.from.now c.entries.batch c.add_entry.new.batch c.entries.invariant.0 c.in_ok-add_entry.ensures in
    (more, omega (arith, c.entries-test.true, c.in_ok-add_entry.ensures.version))
