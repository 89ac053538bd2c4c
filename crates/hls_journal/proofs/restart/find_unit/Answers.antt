-- A unit whose number isn't below the floor is read from the media, at the end of the recording; a fault there is the record's.
use Rattle.std.proofs.Common.{◌≤◌, List, ℕ, length, inr, subst, arith}
use Rattle.std.specs.Option.{option_copied}
use Rattle.std.proofs.lemmas.Result.{IfOk-weaker, IfErr-weaker}
use Rattle.hls_journal.specs.declared.fault.RecallFault.{RecallFault}
use Rattle.hls_journal.specs.Recalling.{IsStoredIn}
use Rattle.hls_journal.specs.Faults.{IsStoredFault}
use Rattle.hls_journal.proofs.Units.{stored_fault}
use Rattle.hls_journal.proofs.restart.find_unit.Goals as goal

pub returns-clause-unit : goal.returns-clause-unit
returns-clause-unit c =
    let kept : c.args.floor ≤ length c.args.recording.now.facts = omega (arith, c.if-count-floor.false, c.count.ensures.value) in
    IfOk-weaker _ _ _ (λ (bytes : List ℕ) stored. inr (kept, subst (λ (at : ℕ). IsStoredIn (option_copied c.args.media) at c.args.body.now bytes) c.total.ensures.value stored)) c.find_stored_unit.ensures.unit

pub returns-clause-fault : goal.returns-clause-fault
returns-clause-fault c =
    let kept : c.args.floor ≤ length c.args.recording.now.facts = omega (arith, c.if-count-floor.false, c.count.ensures.value) in
    IfErr-weaker _ _ _
    (λ (fault : RecallFault) is.
    stored_fault c.args.floor (option_copied c.args.media) c.args.recording.now c.args.body.now fault kept c.requires.body c.requires.some
    (subst (λ (at : ℕ). IsStoredFault (option_copied c.args.media) at c.args.body.now fault) c.total.ensures.value is))
    c.find_stored_unit.ensures.fault
