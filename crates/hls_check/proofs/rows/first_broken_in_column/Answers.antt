-- The rows are examined in order. So the place at which the search stops is the first from which the step to q is broken;
-- if it doesn't stop, all steps to q respect the prices.
use Rattle.std.proofs.Common.{arith}
use Rattle.hls_check_tables.specs.Certificates.{claim_data}
use Rattle.hls_check.specs.Rows.{StepKeepsPrices}
use Rattle.hls_check.proofs.Seen.{more_places}
use Rattle.hls_check.proofs.rows.first_broken_in_column.Goals as goal

pub loop-p-init : goal.loop-p-init
loop-p-init c = λ i from below. absurd (omega arith)

pub loop-p-preserved : goal.loop-p-preserved
loop-p-preserved c =
    more_places (λ i. StepKeepsPrices c.args.table.now (claim_data c.args.claim.now) i c.args.q) c.args.first c.loop-p.p c.loop-p.invariant c.if-is_broken_step.ensures

pub returns-then-is_broken_step : goal.returns-then-is_broken_step
returns-then-is_broken_step c = record {
  from = c.loop-p.auto.p;
  below = c.loop-p-test.true;
  broken = c.if-is_broken_step.ensures;
  column = c.loop-p.invariant;
}

pub returns : goal.returns
returns c = λ i from below. c.loop-p.invariant i from (omega arith)
