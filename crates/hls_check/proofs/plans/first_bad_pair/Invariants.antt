-- Before each round, every pair of neighbouring places so far is an increasing and allowed step.
use Rattle.std.proofs.Common.{ℕ, ◌+◌, ◌<◌}
use Rattle.hls_check.specs.Faults.{IsStepAt}
use Rattle.hls_check.proofs.plans.first_bad_pair.Given as goal

abbrev pub invariant-loop-k : goal.invariant-loop-k
invariant-loop-k l = (k : ℕ) → k + 1 < l.k → IsStepAt l.table l.plan k
