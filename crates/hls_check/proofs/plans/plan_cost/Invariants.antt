-- Before each round, the total is the cost of the plan so far. It is at most the number of the last place so far times the cost limit,
-- so it can't overflow.
use Rattle.std.proofs.Common.{◌≡◌, ◌-◌, ◌*◌, ◌≤◌, take, slice_index}
use Rattle.hls_check_tables.specs.Plans.{plan_cost}
use Rattle.hls_check.proofs.plans.plan_cost.Given as goal
use Rattle.hls_check_tables.specs.Steps.{cost_limit}

abbrev pub invariant-loop-k : goal.invariant-loop-k
invariant-loop-k l = record {
  sum : l.total ≡ plan_cost l.table (take l.k l.plan);
  bound : l.total ≤ slice_index l.plan (l.k - 1) * cost_limit;
}
