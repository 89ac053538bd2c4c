-- Before each round, no plan so far is of a later turn.
use Rattle.std.proofs.Common.{ℕ, ◌<◌, ◌≤◌}
use Rattle.hls_jobs.specs.PlanTurns.{turn_at}
use Rattle.hls_jobs.proofs.plan_turns.find_turn.Given as goal

abbrev pub invariant-loop-at : goal.invariant-loop-at
invariant-loop-at l = (k : ℕ) → k < l.at → turn_at l.plans k ≤ l.turn
