-- Each round appends the record of one more body, with the next number.
use Rattle.std.proofs.Common.{◌∙◌, ◌++◌, ap}
use Rattle.hls_journal_log.specs.Records.{record_bytes}
use Rattle.hls_journal_log.proofs.Steps.{record_made}
use Rattle.hls_journal_log.proofs.write.make_records.Goals as goal

pub loop-body-preserved : goal.loop-body-preserved
loop-body-preserved c =
    record_made c.args.first c.args.bodies.now c.loop-body.body-index c.loop-body.number c.body-item.result c.loop-body.text.items c.push_record.new.out.items
    c.loop-body-test.true c.body-item.is c.loop-body.invariant (c.in_ok-push_record.ensures ∙ ap (λ b. c.loop-body.text.items ++ record_bytes c.loop-body.number b) c.deref.ensures)
