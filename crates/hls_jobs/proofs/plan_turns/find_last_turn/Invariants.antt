-- Before each round, the plan is the last one of the latest turn so far.
use Rattle.std.proofs.Common.{ℕ, ◌<◌, ◌≤◌}
use Rattle.hls_jobs.specs.PlanTurns.{turn_at}
use Rattle.hls_jobs.proofs.plan_turns.find_last_turn.Given as goal

abbrev pub invariant-loop-at : goal.invariant-loop-at
invariant-loop-at l =
    (l.last < l.at) × ((k : ℕ) → k < l.at → turn_at l.plans k ≤ turn_at l.plans l.last)
    × ((k : ℕ) → l.last < k → k < l.at → turn_at l.plans k < turn_at l.plans l.last)
