-- A plan that begins with place 0 has the right ends exactly if its last place is the table's last.
use Rattle.std.proofs.Common.{arith}
use Rattle.std.proofs.lemmas.Bool.{eq-eqb, eqb-true}
use Rattle.hls_check.proofs.PlanLists.{ends_from_places, last_from_ends}
use Rattle.hls_check.proofs.plans.has_ends.Goals as goal

pub returns-then-plan-eq0 : goal.returns-then-plan-eq0
returns-then-plan-eq0 c =
    let t = c.args.table.now in
    let plan = c.args.plan.now in (
      (λ last. ends_from_places t plan c.requires c.if-plan-eq0.true (omega (arith, eqb-true _ _ last))),
      (λ ends. eq-eqb _ _ (omega (arith, last_from_ends t plan ends))),
    )
