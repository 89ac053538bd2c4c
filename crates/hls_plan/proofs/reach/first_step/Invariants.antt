-- No step leads to a place before q, none of these ends the row, and each of them was counted.
use Rattle.std.proofs.Common.{◌≡◌, ℕ, ◌+◌, ◌<◌}
use Rattle.hls_check_tables.specs.Steps.{Allowed}
use Rattle.hls_check_tables.specs.Orders.{IsRowEnd}
use Rattle.hls_plan.proofs.reach.first_step.Given as goal

abbrev pub invariant-loop-q : goal.invariant-loop-q
invariant-loop-q l = record {
  none : (j : ℕ) → l.p < j → j < l.q → Allowed l.table l.p j → ⊥;
  no_end : (j : ℕ) → l.p < j → j < l.q → IsRowEnd l.table l.p j → ⊥;
  count : l.ticks + l.p + 1 ≡ l.initial.ticks + l.q;
}
