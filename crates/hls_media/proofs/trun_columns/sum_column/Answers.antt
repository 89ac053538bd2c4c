-- Each row adds its number to the total (`column-step`), until none is left (`column-none`).
use Rattle.std.proofs.Common.{◌≡◌, ◌<◌, length, arith}
use Rattle.std.proofs.lemmas.List.{take_rest, length-drop}
use Rattle.hls_media.proofs.ColumnLaws.{rows_less, column-step, column-none}
use Rattle.hls_media.proofs.trun_columns.sum_column.Goals as goal

pub rows-preserved : goal.rows-preserved
rows-preserved c =
    let some : 0 < c.rows.left = omega arith in
    rw (take_rest c.rows.rest.now c.args.row)
    (record {
      value = omega (arith, c.rows.invariant.value, column-step c.rows.left c.args.row c.args.at c.rows.rest.now some, c.read_u32_field.ensures.value, c.from-total.ensures);
      room = omega (arith, rows_less c.rows.left c.args.row (length c.rows.rest.now) some c.rows.invariant.room, length-drop c.args.row c.rows.rest.now);
      bound = omega (arith, c.rows.invariant.bound, c.from-total.ensures);
      counted = omega (arith, c.rows.invariant.counted);
      ticked = omega (arith, c.rows.invariant.ticked, c.read_u32_field.ensures.counted);
    })

pub returns-clause-value : goal.returns-clause-value
returns-clause-value c =
    let none : c.rows.left ≡ 0 = omega arith in
    omega (arith, c.rows.invariant.value, column-none c.rows.left c.args.row c.args.at c.rows.rest.now none)
