-- The first broken step of the first bad block is the first of the table, since all steps of earlier blocks respect the prices.
-- If no block is bad, no step is broken.
use Rattle.std.proofs.Common.{arith, inl, inr}
use Rattle.std.proofs.lemmas.Bool.{cases_lt}
use Rattle.hls_check_tables.specs.Certificates.{claim_data}
use Rattle.hls_check.proofs.FirstBlocks.{first_of_bad, all_of_blocks}
use Rattle.hls_check.proofs.parallel.first_broken_step_in_parallel.Goals as goal

pub returns-in-Some : goal.returns-in-Some
returns-in-Some g c =
    first_of_bad c.args.table.now (claim_data c.args.claim.now) _ _ c.in-Some.block _ c.loop-done.invariant.so_far c.in-Some.ensures c.first_broken_in_block.ensures

pub loop-done-preserved : goal.loop-done-preserved
loop-done-preserved g c = record {
  within = omega arith;
  so_far = λ b below.
      elim (cases_lt b c.loop-done.done) [
        | inl low ↦ c.loop-done.invariant.so_far b low
        | inr high ↦ c.in_default.ensures b high below
      ];
}

pub returns : goal.returns
returns g c =
    all_of_blocks c.args.table.now (claim_data c.args.claim.now) c.div_ceil-blocks.result (omega (arith, c.div_ceil-blocks.ensures, c.len.ensures.len))
    (λ b below. c.loop-done.invariant.so_far b (omega arith))
