-- A binary search: a step leads to `last`, none to `end` or a later place, and each examination that is counted lowers `end`.
use Rattle.std.proofs.Common.{ℕ, ◌+◌, ◌-◌, ◌<◌, ◌≤◌, length}
use Rattle.hls_check_tables.specs.Steps.{Allowed}
use Rattle.hls_plan.proofs.reach.last_allowed_between.Given as goal

abbrev pub invariant-loop-last : goal.invariant-loop-last
invariant-loop-last l = record {
  allowed : Allowed l.table l.p l.last;
  not_before : l.fn.low ≤ l.last;
  before : l.last < l.end;
  within : l.end ≤ length l.table.places;
  none : (j : ℕ) → l.end ≤ j → Allowed l.table l.p j → ⊥;
  rises : l.initial.ticks ≤ l.ticks;
  count : l.ticks + l.end ≤ l.initial.ticks + l.fn.high;
}

abbrev pub decreases-loop-last : goal.decreases-loop-last
decreases-loop-last l = l.end - l.last
