-- Each round restores the state after one more record. If one fails, its number is in the fault.
-- After the last, the state is the one that all records restore, with the highest floors that they name.
use Rattle.std.proofs.Common.{◌+◌, ℕ, List, subst, arith}
use Rattle.std.proofs.lemmas.List.{take_all}
use Rattle.hls_core_laws.specs.Runs.{first_state}
use Rattle.hls_journal_laws.specs.Floors.{highest_floor}
use Rattle.hls_journal_laws.specs.Restored.{Restores}
use Rattle.hls_journal.specs.Recalling.{floors_at, RestoresOne}
use Rattle.hls_journal.specs.Faults.{IsRecallFault}
use Rattle.hls_journal.proofs.Restored.{restores_more, restores_alike}
use Rattle.hls_journal.proofs.NotNew.{failed_at}
use Rattle.hls_journal.proofs.restart.restore_records.Goals as goal

pub loop-body-preserved : goal.loop-body-preserved
loop-body-preserved c = (
  restores_more (floors_at c.in_ok-floors.floors.items) c.args.media.now (first_state c.args.config) c.loop-body.state.value c.in-Ok.next.value c.args.bodies.now c.loop-body.body-index c.body-item.result
      c.loop-body-test.true c.body-item.is c.loop-body.invariant.0
      (subst (λ (xs : List ℕ). RestoresOne (floors_at xs) c.args.media.now c.loop-body.state.value c.body-item.result c.in-Ok.next.value) c.deref.ensures.value c.in-Ok.ensures.next),
  omega (arith, c.loop-body.invariant.1),
)

pub returns-in-Err-clause-fault : goal.returns-in-Err-clause-fault
returns-in-Err-clause-fault c =
    failed_at (floors_at c.in_ok-floors.floors.items) (highest_floor c.args.bodies.now) c.args.media.now (first_state c.args.config) c.args.bodies.now c.loop-body.body-index (c.loop-body.number + 1) c.body-item.result
    c.loop-body.state.value c.in-Err.fault c.at_record.result (λ r. c.in_ok-floors.ensures.floors r) c.loop-body-test.true c.body-item.is (omega (arith, c.loop-body.invariant.1)) c.at_record.ensures c.loop-body.invariant.0
    c.in-Err.ensures.fault.0
    (subst (λ (xs : List ℕ). IsRecallFault (floors_at xs) c.args.media.now c.loop-body.state.value c.body-item.result c.in-Err.fault) c.deref.ensures.value c.in-Err.ensures.fault.1)

pub returns-clause-restored : goal.returns-clause-restored
returns-clause-restored c =
    restores_alike (floors_at c.in_ok-floors.floors.items) (highest_floor c.args.bodies.now) (λ r. c.in_ok-floors.ensures.floors r) c.args.media.now (first_state c.args.config) c.args.bodies.now c.loop-body.state.value
    (subst (λ (bs : List (List ℕ)). Restores (floors_at c.in_ok-floors.floors.items) c.args.media.now (first_state c.args.config) bs c.loop-body.state.value)
    (take_all c.loop-body.body-index c.args.bodies.now c.loop-body-test.false) c.loop-body.invariant.0)
