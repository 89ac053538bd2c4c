-- One more row takes at most one examination for each of its pairs, and at most an eighth more than its reach (`row_within`).
use Rattle.std.proofs.Common.{◌≡◌, ◌+◌, ◌/◌, suc, length, arith}
use Rattle.hls_plan.proofs.RowLooks.{one_more_row, row_within}
use Rattle.hls_plan.proofs.price_table.relax_rows.Goals as goal

pub loop-p-init : goal.loop-p-init
loop-p-init c = record {
  priced = c.requires.priced;
  rises = omega arith;
  room = omega arith;
  pairs = λ left is. let all : left ≡ length c.args.table.now.places = omega (arith, is) in rw all (omega arith);
  rows = λ reach within. omega arith;
}

pub loop-p-preserved : goal.loop-p-preserved
loop-p-preserved c =
    let now = c.loop-p.invariant in
    let row = c.relax_row.ensures in
    record {
      priced = row.priced;
      rises = omega (arith, now.rises, row.rises);
      room = omega (arith, now.room, row.pairs, c.len-count.ensures.valid.count);
      pairs = λ left is. omega (arith, now.pairs (suc left) (omega (arith, is)), row.pairs, is);
      rows = λ reach within.
          one_more_row _ (reach + reach / 8) _ _ _ (now.rows reach within)
          (row_within c.args.table.now c.loop-p.p reach _ _ within row.pairs row.row);
    }

pub returns-clause-pairs : goal.returns-clause-pairs
returns-clause-pairs c = omega (arith, c.loop-p.invariant.pairs 0 (omega (arith, c.len-count.ensures.len)))
