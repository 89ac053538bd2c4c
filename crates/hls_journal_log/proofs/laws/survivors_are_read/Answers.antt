-- Records that survive a crash are read after it, first and in order.
use Rattle.hls_journal_log.proofs.Crashes.{survivors-are-read}
use Rattle.hls_journal_log.proofs.laws.survivors_are_read.Goals as goal

pub returns : goal.returns
returns g c = survivors-are-read (g.D.Disk.may_leave c.args._disk.now)
