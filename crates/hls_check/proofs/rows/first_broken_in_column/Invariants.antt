-- Before each round, the steps to place q from all places examined so far respect the prices.
use Rattle.hls_check_tables.specs.Certificates.{claim_data}
use Rattle.hls_check.specs.Rows.{ColumnKeepsPrices}
use Rattle.hls_check.proofs.rows.first_broken_in_column.Given as goal

abbrev pub invariant-loop-p : goal.invariant-loop-p
invariant-loop-p l = ColumnKeepsPrices l.table (claim_data l.claim) l.first l.p l.q
