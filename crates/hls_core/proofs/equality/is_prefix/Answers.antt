-- If two logs begin with the same n entries and their next entries are the same, they begin with the same n + 1 entries.
use Rattle.hls_core.proofs.Compared.{item_there, begins_more}
use Rattle.hls_core.proofs.equality.is_prefix.Goals as goal

pub loop-n-preserved : goal.loop-n-preserved
loop-n-preserved c =
    begins_more c.args.a.now.items c.args.b.now.items c.loop-n.n c.in-Some.x.now c.in-Some-entry_at.y.now
    (item_there c.args.a.now c.loop-n.n c.in-Some.x.now c.requires.first c.in-Some.ensures)
    (item_there c.args.b.now c.loop-n.n c.in-Some-entry_at.y.now c.requires.other c.in-Some-entry_at.ensures)
    (c.same_entry.ensures.0 c.if-not-same_entry.false) c.loop-n.invariant
