-- If the event of a record isn't new in the state, the record leads to no next state.
use Rattle.std.proofs.lemmas.Result.{IfErr-weaker}
use Rattle.hls_journal.specs.declared.fault.RecallFault.{RecallFault}
use Rattle.hls_journal.specs.Recalling.{floors_at}
use Rattle.hls_journal.proofs.NotNew.{old_fault}
use Rattle.hls_journal.proofs.restart.recall.Goals as goal

pub returns-in-Ok-clause-fault : goal.returns-in-Ok-clause-fault
returns-in-Ok-clause-fault c =
    IfErr-weaker _ _ _
    (λ (fault : RecallFault) is. old_fault (floors_at c.args.floors.now) c.args.media.now c.args.state.now c.args.body.now c.in-Ok.event fault c.in-Ok.ensures.of c.in-Ok.ensures.fits is)
    c.apply_event.ensures.fault
