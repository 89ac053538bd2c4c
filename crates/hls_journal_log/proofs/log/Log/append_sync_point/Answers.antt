-- If the disk's bytes end at the log's end, the record of an appended sync point follows them.
use Rattle.std.proofs.Common.{◌∙◌, ◌++◌, ap}
use Rattle.std.proofs.lemmas.Result.{on_ok_weaker}
use Rattle.hls_journal_log.proofs.Opened.{one_sync_point}
use Rattle.hls_journal_log.proofs.log.Log.append_sync_point.Goals as goal

pub returns-clause-seen : goal.returns-clause-seen
returns-clause-seen g c =
    on_ok_weaker c.append.result
    (λ seen end. seen end ∙ ap (λ xs. g.D.Disk.seen c.args.self.now.disk ++ xs)
    (one_sync_point c.args.self.now.next c.args.self.now.synced c.in_ok-from_vec.field-0 (c.in_ok-from_vec.ensures.ok ∙ c.in_ok-body.ensures)))
    c.append.ensures.seen
