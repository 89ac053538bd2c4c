-- After a batch is written, the log has the records that lead to the batch's position. In the mode `Each` they survive any crash.
use Rattle.std.proofs.Common.{◌∙◌, ℕ, List, sym, subst}
use Rattle.hls_journal_store.specs.Followed.{AddsAfterAsides, AreDurable}
use Rattle.hls_journal_store.proofs.Followed.{batch_grows, batch_durable}
use Rattle.hls_journal_store.proofs.follower.Follower.write_batch.Goals as goal

pub returns-clause-grows : goal.returns-clause-grows
returns-clause-grows g c =
    rw (sym c.write_media.ensures.log)
    (batch_grows c.args.snapshot.now c.args.self.now.position c.args.batch c.write_media.new.self.log.next c.write_records.new.log.next c.write_media.new.self.log.end c.write_records.new.log.end
    (g.D.Disk.seen c.write_media.new.self.log.disk) (g.D.Disk.seen c.write_records.new.log.disk) c.requires
    (subst (λ (bs : List (List ℕ)). AddsAfterAsides bs c.write_media.new.self.log.next c.write_records.new.log.next c.write_media.new.self.log.end c.write_records.new.log.end
    (g.D.Disk.seen c.write_media.new.self.log.disk) (g.D.Disk.seen c.write_records.new.log.disk)) c.deref.ensures.value c.in_ok-write_records.ensures.grows))

pub returns-clause-durable : goal.returns-clause-durable
returns-clause-durable g c = λ each.
    rw (sym c.write_media.ensures.log)
    (batch_durable c.args.snapshot.now c.args.self.now.position c.args.batch c.write_media.new.self.log.next c.write_media.new.self.log.end (g.D.Disk.seen c.write_media.new.self.log.disk)
    (g.D.Disk.may_leave c.write_records.new.log.disk) c.requires
    (subst (λ (bs : List (List ℕ)). AreDurable bs c.write_media.new.self.log.next c.write_media.new.self.log.end (g.D.Disk.seen c.write_media.new.self.log.disk) (g.D.Disk.may_leave c.write_records.new.log.disk))
    c.deref.ensures.value (c.in_ok-write_records.ensures.durable (c.write_media.ensures.mode ∙ each))))
