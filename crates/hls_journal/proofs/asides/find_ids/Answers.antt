-- After one more record, the number is the highest that the records so far name.
use Rattle.std.proofs.Common.{◌∙◌, refl, ap}
use Rattle.std.specs.Prelude.{max}
use Rattle.hls_journal.specs.Asides.{ids_in}
use Rattle.hls_journal.proofs.HighestIds.{more_ids}
use Rattle.hls_journal.proofs.asides.find_ids.Goals as goal

pub loop-body-preserved : goal.loop-body-preserved
loop-body-preserved c =
    more_ids c.args.bodies.now c.loop-body.body-index c.body-item.result c.loop-body.ids c.raise_ids-ids.result (ids_in c.body-item.result) c.loop-body-test.true c.body-item.is c.loop-body.invariant refl
    (c.raise_ids-ids.ensures ∙ ap (λ b. max c.loop-body.ids (ids_in b)) c.deref.ensures)
