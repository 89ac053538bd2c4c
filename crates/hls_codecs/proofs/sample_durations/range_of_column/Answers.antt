-- Each row adds its duration to the range, and after the last one the range is that of the column (DurationLaws).
use Rattle.std.proofs.Common.{◌≡◌, ◌+◌, ◌<◌, length, min, ap, ◌∙◌, arith}
use Rattle.std.proofs.lemmas.List.{take_rest, length-drop}
use Rattle.hls_codecs.specs.declared.sample_durations.DurationRange.{DurationRange}
use Rattle.hls_codecs.proofs.DurationLaws.{range-none, range-next, range-end, rows-less}
use Rattle.hls_codecs.proofs.sample_durations.range_of_column.Goals as goal

pub returns-then-count-eq0-clause-value : goal.returns-then-count-eq0-clause-value
returns-then-count-eq0-clause-value c = range-none c.args.count c.args.row c.args.rows.now c.if-count-eq0.true

pub rows-preserved : goal.rows-preserved
rows-preserved c =
    let some : 0 < c.rows.left = omega arith in
    let total : c.and_duration-range.result.total ≡ c.rows.range.total + c.u32_at.result = ap (λ (r : DurationRange). r.total) c.and_duration-range.ensures in
    let count : c.and_duration-range.result.count ≡ c.rows.range.count + 1 = ap (λ (r : DurationRange). r.count) c.and_duration-range.ensures in
    let least : c.and_duration-range.result.least ≡ min c.rows.range.least c.u32_at.result = ap (λ (r : DurationRange). r.least) c.and_duration-range.ensures in
    rw (take_rest c.rows.rest.now c.args.row)
    (record {
      value = rw (c.and_duration-range.ensures, c.u32_at.ensures) (range-next c.rows.range c.rows.left c.args.row c.rows.rest.now some ∙ c.rows.invariant.value);
      room = omega (arith, rows-less c.rows.left c.args.row (length c.rows.rest.now) some c.rows.invariant.room, length-drop c.args.row c.rows.rest.now);
      total = omega (arith, c.rows.invariant.total, total);
      least = omega (arith, least, total, c.rows.invariant.least);
      some = omega (arith, count);
      counted = omega (arith, c.rows.invariant.counted, count);
    })

pub returns-clause-value : goal.returns-clause-value
returns-clause-value c = range-end c.rows.range c.args.count c.rows.left c.args.row c.args.rows.now c.rows.rest.now (omega arith) (omega arith) c.rows.invariant.value
