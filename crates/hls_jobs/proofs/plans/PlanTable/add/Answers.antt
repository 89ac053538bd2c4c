-- The plan that is inserted is for the request.
use Rattle.std.proofs.Common.{List, length, ap, arith, refl, subst, sym}
use Rattle.hls_jobs.specs.Plans.{IsPlanAt}
use Rattle.hls_jobs.specs.declared.plans.PlanRow.{PlanRow}
use Rattle.hls_jobs.specs.declared.plans.PlanRow.TheVariants as rows
use Rattle.hls_jobs.proofs.PlanCalls.{inserted_there}
use Rattle.hls_jobs.proofs.plans.PlanTable.add.Goals as goal

pub returns-clause-found : goal.returns-clause-found
returns-clause-found c =
    let row : PlanRow = rows.Waiting c.in_ok-try_clone.field-0 c.args.request c.args.client in
    let there = inserted_there c.make_room_for_turn.new.plans.items c.find_turn-at.result row (omega (arith, c.find_turn-at.ensures.within, ap length c.deref-2.ensures.value)) in (
      c.find_turn-at.result,
      subst (λ (plans : List PlanRow). IsPlanAt c.args.request plans c.find_turn-at.result) (sym c.in_ok-insert.ensures.items)
          (record { row = row; within = there.0; there = there.1; request_is = refl }),
    )
