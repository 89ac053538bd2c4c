-- Before each round, a step leads to the last place found; the next one to be tried is later by one and an eighth of the distance so far.
use Rattle.std.proofs.Common.{◌≡◌, ◌+◌, ◌-◌, ◌/◌, ◌≤◌, length}
use Rattle.hls_check_tables.specs.Steps.{Allowed}
use Rattle.hls_plan.proofs.reach.look_ahead.Given as goal

abbrev pub invariant-loop-far : goal.invariant-loop-far
invariant-loop-far l = record {
  allowed : Allowed l.table l.p l.last;
  not_before : l.fn.first ≤ l.last;
  far : l.far ≡ l.last + 1 + (l.last - l.p) / 8;
  count : l.ticks ≡ l.initial.ticks;
}

abbrev pub decreases-loop-far : goal.decreases-loop-far
decreases-loop-far l = length l.table.places - l.last
