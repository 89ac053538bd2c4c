-- Records before the log's end that survive a crash still do after the write, even if it fails.
-- If it succeeds, the text follows the disk's bytes, provided that they end at the log's end.
use Rattle.std.proofs.Common.{length}
use Rattle.hls_journal_log.proofs.Crashes.{survive_write, file_after_write}
use Rattle.hls_journal_log.proofs.log.Log.write_end.Goals as goal

pub returns-in_err-write_at-clause-survive : goal.returns-in_err-write_at-clause-survive
returns-in_err-write_at-clause-survive g c = λ kept low survive.
    survive_write kept c.args.self.now.end (length c.args.text.now) (g.D.Disk.may_leave c.args.self.now.disk) (g.D.Disk.may_leave c.write_at.new.self) low c.in_err-write_at.ensures.crash survive

pub returns-clause-survive : goal.returns-clause-survive
returns-clause-survive g c = λ kept low survive.
    survive_write kept c.args.self.now.end (length c.args.text.now) (g.D.Disk.may_leave c.args.self.now.disk) (g.D.Disk.may_leave c.write_at.new.self) low c.in_ok-write_at.ensures.crash survive

pub returns-clause-seen : goal.returns-clause-seen
returns-clause-seen g c = λ end.
    file_after_write (g.D.Disk.seen c.args.self.now.disk) c.args.text.now (g.D.Disk.seen c.write_at.new.self) c.args.self.now.end end c.in_ok-write_at.ensures.written c.in_ok-write_at.ensures.others
