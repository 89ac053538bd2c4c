-- The blocks are examined in order. So the first broken step of a block is the first of the table, if all earlier rows respect the prices;
-- if no block has one, there is none.
use Rattle.std.proofs.Common.{◌+◌, arith}
use Rattle.hls_check_tables.specs.Certificates.{claim_data}
use Rattle.hls_check.proofs.Blocks.{first_of_all}
use Rattle.hls_check.proofs.Seen.{more_rows, all_rows}
use Rattle.hls_check.proofs.rows.first_broken_step.Goals as goal

pub returns-in-Some : goal.returns-in-Some
returns-in-Some c = first_of_all _ _ _ _ _ _ c.loop-first.invariant (rw c.in-Some.is at c.first_broken_in_block.ensures)

pub loop-first-init : goal.loop-first-init
loop-first-init c = λ i j from below. absurd (omega arith)

pub loop-first-preserved : goal.loop-first-preserved
loop-first-preserved c =
    more_rows c.args.table.now (claim_data c.args.claim.now) 0 c.loop-first.first (c.loop-first.first + 32) c.loop-first.invariant c.in_default.ensures

pub returns : goal.returns
returns c = all_rows c.args.table.now (claim_data c.args.claim.now) c.loop-first.first (omega arith) c.loop-first.invariant
