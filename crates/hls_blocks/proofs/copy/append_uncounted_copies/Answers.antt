-- A copy of an entry has the same value, so each round appends the value of one more entry.
use Rattle.hls_blocks.proofs.Copies.{one_copied}
use Rattle.hls_blocks.proofs.copy.append_uncounted_copies.Goals as goal

pub loop-entry-preserved : goal.loop-entry-preserved
loop-entry-preserved g c =
    one_copied (λ u. u.value) c.args.all.now.items c.loop-entry.all.items c.push.new.self.items c.args.entries.now c.loop-entry.entry-index
    c.entry-item.result c.in_ok-clone.field-0 c.loop-entry.invariant c.loop-entry-test.true c.entry-item.is c.in_ok-clone.ensures.cases c.in_ok-push.ensures.items
