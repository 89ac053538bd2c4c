-- Column by column: the rows before `end` respect the prices so far, and a broken step shortens them to those before its row.
use Rattle.std.proofs.Common.{refl, arith}
use Rattle.hls_check_tables.specs.Certificates.{claim_data}
use Rattle.hls_check.specs.Rows.{StepKeepsPrices}
use Rattle.hls_check.proofs.Seen.{no_columns, more_columns, cut_at, found_of_rows}
use Rattle.hls_check.proofs.rows.first_broken_in_block.Goals as goal

pub loop-q-init : goal.loop-q-init
loop-q-init c = record {
  within = omega arith;
  so_far = no_columns c.args.table.now (claim_data c.args.claim.now) c.args.first c.min-end.result;
  found = rw c.len-count.ensures.len at c.min-end.ensures;
  lower_bound = c.lower_bound_of-lower_bound.ensures;
}

pub loop-q-preserved-in_default : goal.loop-q-preserved-in_default
loop-q-preserved-in_default c =
    let now = c.loop-q.invariant in
    record {
      within = now.within;
      so_far = more_columns (StepKeepsPrices c.args.table.now (claim_data c.args.claim.now)) c.args.first c.loop-q.end c.loop-q.q now.so_far c.in_default.ensures;
      found = now.found;
      lower_bound = now.lower_bound;
    }

pub loop-q-preserved : goal.loop-q-preserved
loop-q-preserved c =
    let now = c.loop-q.invariant in
    let cut = cut_at c.args.table.now (claim_data c.args.claim.now) c.args.first c.loop-q.end c.in-Some.p c.loop-q.q c.lower_bound_of-lower_bound.result.price c.lower_bound_of-lower_bound.result.start
    now.within now.so_far now.lower_bound c.in-Some.ensures in
    record {
      within = cut.within;
      so_far = cut.so_far;
      found = (refl, cut.found);
      lower_bound = cut.lower_bound;
    }

pub returns : goal.returns
returns c =
    found_of_rows c.args.table.now (claim_data c.args.claim.now) c.args.first c.loop-q.end c.loop-q.q c.loop-q.found (rw c.len-count.ensures.len at c.loop-q-test.false)
    c.loop-q.invariant.so_far c.loop-q.invariant.found
