-- An entry by the given pass adds one to the count, any other adds nothing; after the last entry, all entries by that pass are counted.
use Rattle.std.proofs.Common.{arith}
use Rattle.hls_core.proofs.Compared.{item_there, counted_own, counted_other}
use Rattle.hls_core.proofs.snapshot.Snapshot.count_entries_by.Goals as goal
use Rattle.hls_core.proofs.snapshot.Snapshot.count_entries_by.Goals.{then-entry-by, else-entry-by}

pub loop-n-preserved : goal.loop-n-preserved
loop-n-preserved c =
    let at = item_there c.self.inside.log c.loop-n.n c.in-Some.entry.now c.self.invariant.all c.in-Some.ensures in
    elim c.if-entry-by.branch [
      | then-entry-by w ↦ record {
        counted = omega (arith, w.count-is, c.loop-n.invariant.counted, counted_own c.args.by c.self.inside.log.items c.loop-n.n c.in-Some.entry.now at w.if-entry-by.true);
        few = omega arith;
      }
      | else-entry-by w ↦ record {
        counted = omega (arith, w.count-is, c.loop-n.invariant.counted, counted_other c.args.by c.self.inside.log.items c.loop-n.n c.in-Some.entry.now at w.if-entry-by.false);
        few = omega arith;
      }
    ]
