-- Once another record is read, the text up to its end consists of the records so far, with this one as the last.
use Rattle.hls_journal_log.proofs.Steps.{read_step_at}
use Rattle.hls_journal_log.proofs.read.read_records.Goals as goal

pub records-preserved : goal.records-preserved
records-preserved c =
    read_step_at c.args.first c.records.number c.records.at c.in-Ok.len c.deref.result.now c.args.text.now c.records.bodies.items c.push.new.self.items c.in_ok-slice-in-Ok.field-0
    c.in-Ok.ensures.split c.deref.ensures c.in-Ok.ensures.len c.in-Ok.ensures.record c.in_ok-push-in-Ok.ensures.items c.in_ok-slice-in-Ok.ensures.ok c.records.invariant
