-- Before each round, the path leads by origins from the last place back to the place that was reached. It gets nearer to place 0.
use Rattle.std.proofs.Common.{◌<◌, length}
use Rattle.hls_plan.specs.Pricing.{IsPathBack}
use Rattle.hls_plan.proofs.planner.trace_plan.Given as goal

abbrev pub invariant-loop-at : goal.invariant-loop-at
invariant-loop-at l = record {
  back : IsPathBack l.table l.prices l.at l.path.items;
  in_range : l.at < length l.table.places;
}

abbrev pub decreases-loop-at : goal.decreases-loop-at
decreases-loop-at l = l.at
