-- Each place before `low` satisfies the predicate, none from `high` on does, and those between them are still to be searched.
use Rattle.std.proofs.Common.{◌-◌, ◌≤◌, length}
use Rattle.hls_core_laws.specs.Places.{places}
use Rattle.hls_core.specs.Predicates.{SatisfyBelow, NoneSatisfiesFrom}
use Rattle.hls_core.proofs.place_search.count_matching_front.Given as goal

abbrev pub invariant-loop-low : goal.invariant-loop-low
invariant-loop-low l = record {
  order : l.low ≤ l.high;
  within : l.high ≤ length (places l.snapshot);
  met : SatisfyBelow l.snapshot l.predicate l.low;
  unmet : NoneSatisfiesFrom l.snapshot l.predicate l.high;
}

abbrev pub decreases-loop-low : goal.decreases-loop-low
decreases-loop-low l = l.high - l.low
