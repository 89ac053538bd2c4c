-- After a sync point is appended, the log has one more record, which is of no event.
use Rattle.hls_journal_store.proofs.Followed.{adds_point}
use Rattle.hls_journal_store.proofs.records.append_point.Goals as goal

pub returns : goal.returns
returns g c =
    adds_point c.args.log.now.next c.append_sync_point.new.self.next c.args.log.now.end c.append_sync_point.new.self.end c.args.log.now.synced (g.D.Disk.seen c.args.log.now.disk)
    (g.D.Disk.seen c.append_sync_point.new.self.disk) c.in_default.ensures.next c.in_default.ensures.end c.in_default.ensures.seen
