-- Before each round, all steps from the rows that are still examined to the places so far respect the prices;
-- the step found last is the first from the rows after those, and the lower bound still applies.
use Rattle.std.proofs.Common.{◌≡◌, ℕ, ◌+◌, ◌<◌, ◌≤◌, min, length, MatchOption}
use Rattle.hls_check_tables.specs.Certificates.{claim_data}
use Rattle.hls_check.specs.Rows.{StepKeepsPrices, IsFirstFound, IsLowerBound}
use Rattle.hls_check.proofs.rows.first_broken_in_block.Given as goal

-- The rows before `end` respect the prices up to column q. The step that was found last is the first from row `end`; before one is
-- found, `end` is the end of the block.
abbrev pub invariant-loop-q : goal.invariant-loop-q
invariant-loop-q l = record {
  within : l.end ≤ l.first + 32;
  so_far : (i j : ℕ) → l.first ≤ i → i < l.end → j < l.q → StepKeepsPrices l.table (claim_data l.claim) i j;
  found : MatchOption l.found (l.end ≡ min (length l.table.places) (l.first + 32))
      (λ step. (step.0 ≡ l.end) × IsFirstFound l.table (claim_data l.claim) l.first step.0 step.1);
  lower_bound : IsLowerBound l.table (claim_data l.claim) l.first l.end l.lower_bound.price l.lower_bound.start;
}
