-- One more place adds its step's cost, and a bound follows because the places of a plan increase.
use Rattle.std.proofs.Common.{◌≡◌, ◌+◌, ◌-◌, ◌<◌, get_or, arith}
use Rattle.hls_check.proofs.PlanLists.{plan_cost-take}
use Rattle.hls_check.proofs.plans.plan_cost.Goals as goal

pub loop-k-preserved : goal.loop-k-preserved
loop-k-preserved c =
    let k = c.loop-k.k in
    let plan = c.args.plan.now in
    let more = plan_cost-take c.args.table.now plan k (omega arith) (omega arith) in
    let back : k - 1 + 1 ≡ k = omega arith in
    let rises : get_or plan (k - 1) 0 < get_or plan k 0 =
    rw back at (c.requires.steps (k - 1) (omega arith)).rises in
    let same : k + 1 - 1 ≡ k = omega arith in
    record {
      sum = omega (arith, more, c.loop-k.invariant.sum, c.cost-total.ensures.cost);
      bound = rw same (omega (arith, rises, c.loop-k.invariant.bound, c.cost-total.ensures.bound));
    }
