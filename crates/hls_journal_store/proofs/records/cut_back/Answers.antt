-- Records before the log's end that survive a crash still do after the cut.
use Rattle.hls_journal_store.proofs.CutBack.{survive_cut}
use Rattle.hls_journal_store.proofs.records.cut_back.Goals as goal

pub returns-then-may_be_used-clause-survive : goal.returns-then-may_be_used-clause-survive
returns-then-may_be_used-clause-survive g c = λ kept low survive.
    survive_cut kept c.args.log.now.end (g.D.Disk.may_leave c.args.log.now.disk) (g.D.Disk.may_leave c.set_len.new.self) low c.set_len.ensures.crash survive
