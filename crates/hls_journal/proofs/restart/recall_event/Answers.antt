-- A record of a unit is wrong if its rendition hasn't begun. Otherwise it is of the rendition's next unit,
-- or has the fault for which that unit is unavailable.
use Rattle.std.proofs.Common.{rules, ◌∙◌, sym, ap}
use Rattle.std.specs.Option.{option_copied}
use Rattle.std.proofs.lemmas.Result.{IfOk-weaker, IfErr-weaker}
use Rattle.hls_core_laws.specs.declared.event.Event.{Event}
use Rattle.hls_journal.specs.declared.fault.RecallFault.{RecallFault}
use Rattle.hls_journal.specs.Recalling.{floors_at}
use Rattle.hls_journal.proofs.NotNew.{not_begun, accepted_by, unit_fault_by}
use Rattle.hls_journal.proofs.restart.recall_event.Goals as goal

pub returns-in_default-recording-clause-fault : goal.returns-in_default-recording-clause-fault
returns-in_default-recording-clause-fault c =
    not_begun (floors_at c.args.floors.now) c.args.media.now c.args.state.now c.args.body.now _ (search rules) (search rules) (sym c.recording.ensures.value ∙ ap (λ o. option_copied o) c.in_default-recording.is)

pub returns-in-Some-clause-of : goal.returns-in-Some-clause-of
returns-in-Some-clause-of c =
    IfOk-weaker _ _ _
    (λ (event : Event) accepts.
    accepted_by (floors_at c.args.floors.now) c.args.media.now c.args.state.now _ c.in-Some.recording.now c.args.body.now _ _ _ event c.recording.ensures.valid
    (sym c.recording.ensures.value ∙ ap (λ o. option_copied o) c.in-Some.is) (search rules) (search rules) (search rules) c.media_of-stored.ensures c.deref-in-2.ensures accepts)
    c.recall_unit.ensures.event

pub returns-in-Some-clause-fault : goal.returns-in-Some-clause-fault
returns-in-Some-clause-fault c =
    IfErr-weaker _ _ _
    (λ (fault : RecallFault) fails.
    unit_fault_by (floors_at c.args.floors.now) c.args.media.now c.args.state.now _ c.in-Some.recording.now c.args.body.now _ _ _ fault c.recording.ensures.valid
    (sym c.recording.ensures.value ∙ ap (λ o. option_copied o) c.in-Some.is) (search rules) (search rules) (search rules) c.media_of-stored.ensures c.deref-in-2.ensures fails)
    c.recall_unit.ensures.fault
