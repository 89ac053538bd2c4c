-- In the mode `Each` the log has one more sync point, if one was due, and after it the records. After the sync all of these survive any crash.
use Rattle.hls_journal_store.proofs.Followed.{adds_after, adds_synced, synced_durable}
use Rattle.hls_journal_store.proofs.records.write_records.Goals as goal

pub returns-in_ok-sync_log-in-Each-clause-grows : goal.returns-in_ok-sync_log-in-Each-clause-grows
returns-in_ok-sync_log-in-Each-clause-grows g c =
    adds_synced c.args.bodies.now c.args.log.now.next c.append_records.new.log.next c.sync_log.new.log.next c.args.log.now.end c.append_records.new.log.end c.sync_log.new.log.end
    (g.D.Disk.seen c.args.log.now.disk) (g.D.Disk.seen c.append_records.new.log.disk) (g.D.Disk.seen c.sync_log.new.log.disk)
    (adds_after c.args.bodies.now c.args.log.now.next c.append_point.new.log.next c.append_records.new.log.next c.args.log.now.end c.append_point.new.log.end c.append_records.new.log.end
    (g.D.Disk.seen c.args.log.now.disk) (g.D.Disk.seen c.append_point.new.log.disk) (g.D.Disk.seen c.append_records.new.log.disk) c.in_ok-append_point-in-Each.ensures
    c.in_ok-append_records-in-Each.ensures.adds)
    c.sync_log.ensures.same.0 c.sync_log.ensures.same.1 c.sync_log.ensures.same.2

pub returns-in_ok-sync_log-in-Each-clause-durable : goal.returns-in_ok-sync_log-in-Each-clause-durable
returns-in_ok-sync_log-in-Each-clause-durable g c = λ each.
    synced_durable c.args.bodies.now c.args.log.now.next c.append_records.new.log.next c.args.log.now.end c.append_records.new.log.end (g.D.Disk.seen c.args.log.now.disk)
    (g.D.Disk.seen c.append_records.new.log.disk) (g.D.Disk.may_leave c.sync_log.new.log.disk)
    (adds_after c.args.bodies.now c.args.log.now.next c.append_point.new.log.next c.append_records.new.log.next c.args.log.now.end c.append_point.new.log.end c.append_records.new.log.end
    (g.D.Disk.seen c.args.log.now.disk) (g.D.Disk.seen c.append_point.new.log.disk) (g.D.Disk.seen c.append_records.new.log.disk) c.in_ok-append_point-in-Each.ensures
    c.in_ok-append_records-in-Each.ensures.adds)
    c.in_ok-sync_log-in-Each.ensures.durable
