-- Before each round, all steps from the rows examined so far respect the prices. Each round leaves fewer rows.
use Rattle.std.proofs.Common.{◌-◌, length}
use Rattle.hls_check_tables.specs.Certificates.{claim_data}
use Rattle.hls_check.specs.Rows.{RowsKeepPrices}
use Rattle.hls_check.proofs.rows.first_broken_step.Given as goal

abbrev pub invariant-loop-first : goal.invariant-loop-first
invariant-loop-first l = RowsKeepPrices l.table (claim_data l.claim) 0 l.first

abbrev pub decreases-loop-first : goal.decreases-loop-first
decreases-loop-first l = length l.table.places - l.first
