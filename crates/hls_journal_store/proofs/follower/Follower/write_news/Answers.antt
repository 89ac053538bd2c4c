-- Before a batch is written, the log has grown from the first position to this one; writing it grows the log to the batch's position.
use Rattle.std.proofs.Common.{◌∙◌, ap, refl, subst, sym, arith}
use Rattle.hls_journal_store.specs.declared.batch.Position.{Position}
use Rattle.hls_journal_store.specs.Batches.{IsNext}
use Rattle.hls_journal_store.proofs.Followed.{grows_not, grows_more, durable_more}
use Rattle.hls_journal_store.proofs.follower.Follower.write_news.Goals as goal

pub batches-init : goal.batches-init
batches-init g c = (
  omega arith,
  refl,
  grows_not c.args.snapshot.now c.args.self.now.position c.args.self.now.log.next c.args.self.now.log.end (g.D.Disk.seen c.args.self.now.log.disk),
  λ each less. absurd (omega (arith, less)),
  c.in_ok-batch.ensures,
)

pub batches-preserved : goal.batches-preserved
batches-preserved g c =
    let before = c.batches.invariant in
    let wrote = c.in_ok-batch-2.ensures in
    let there = ap (λ (p : Position). p.version) wrote.position in (
      omega (arith, there, before.4.within (omega (arith, c.batches-test.true, c.version-version.ensures.value)), c.batches-test.true, c.version-version.ensures.value),
      c.write_batch.ensures.mode ∙ before.1,
      grows_more c.args.snapshot.now c.args.self.now.position c.batches.self.position c.write_batch.new.self.position c.args.self.now.log.next c.batches.self.log.next c.write_batch.new.self.log.next
          c.args.self.now.log.end c.batches.self.log.end c.write_batch.new.self.log.end (g.D.Disk.seen c.args.self.now.log.disk) (g.D.Disk.seen c.batches.self.log.disk)
          (g.D.Disk.seen c.write_batch.new.self.log.disk) before.2 wrote.grows,
      λ each less.
          durable_more c.args.snapshot.now c.args.self.now.position c.batches.self.position c.write_batch.new.self.position c.args.self.now.log.next c.batches.self.log.next c.args.self.now.log.end
          c.batches.self.log.end (g.D.Disk.seen c.args.self.now.log.disk) (g.D.Disk.seen c.batches.self.log.disk) (g.D.Disk.may_leave c.write_batch.new.self.log.disk) before.2
          (wrote.durable (before.1 ∙ each)),
      subst (λ (p : Position). IsNext c.args.snapshot.now p c.in_ok-batch-2.batch) (sym wrote.position) wrote.next,
    )
