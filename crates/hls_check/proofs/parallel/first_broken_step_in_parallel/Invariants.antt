-- Before each round, all steps from the blocks examined so far respect the prices. Each round leaves fewer blocks.
use Rattle.std.proofs.Common.{ℕ, ◌-◌, ◌<◌, ◌≤◌}
use Rattle.hls_check_tables.specs.Certificates.{claim_data}
use Rattle.hls_check.specs.Rows.{BlockKeepsPrices}
use Rattle.hls_check.proofs.parallel.first_broken_step_in_parallel.Given as goal

abbrev pub invariant-loop-done : goal.invariant-loop-done
invariant-loop-done g l = record {
  within : l.done ≤ l.blocks;
  so_far : (b : ℕ) → b < l.done → BlockKeepsPrices l.table (claim_data l.claim) b;
}

abbrev pub decreases-loop-done : goal.decreases-loop-done
decreases-loop-done g l = l.blocks - l.done
