-- The places before the span are skipped (`row_skipped`), each place of it is offered a price (`row_offered`), and then the row is over (`row_end`).
use Rattle.std.proofs.Common.{◌+◌, ◌∙◌, ◌≤◌, sym, arith}
use Rattle.hls_plan.proofs.PricedRows.{row_skipped, row_end, row_offered}
use Rattle.hls_plan.proofs.RowLooks.{span_within}
use Rattle.hls_plan.proofs.price_table.relax_row.Goals as goal

pub returns-in_default-find_reachable_range-clause-priced : goal.returns-in_default-find_reachable_range-clause-priced
returns-in_default-find_reachable_range-clause-priced c =
    row_end _ _ 0 _ _ c.requires.priced (λ j after from. c.in_default-find_reachable_range.ensures.found j after)

pub loop-q-init : goal.loop-q-init
loop-q-init c = record {
  pricing = row_skipped _ _ _ _ _ c.requires.priced (λ j after there. (c.in-Some-find_reachable_range.ensures.found.others j after there).0);
  priced = sym c.price_of.ensures ∙ c.in-Some.is;
  count = omega arith;
}

pub cost-requires : goal.cost-requires
cost-requires c = c.in-Some-find_reachable_range.ensures.found.each c.loop-q.q (omega arith) c.loop-q-test.true

pub loop-q-preserved : goal.loop-q-preserved
loop-q-preserved c =
    let offered =
    row_offered c.args.table.now c.args.p c.loop-q.q c.in-Some.price (c.in-Some.price + c.cost.result)
    c.loop-q.prices c.loop-q.origins c.loop-q.invariant.pricing c.loop-q.invariant.priced
    (omega (arith, c.in-Some-find_reachable_range.ensures.found.forward))
    (c.in-Some-find_reachable_range.ensures.found.each c.loop-q.q (omega arith) c.loop-q-test.true) (omega (arith, c.cost.ensures.cost))
    (omega (arith, c.cost.ensures.cost, c.cost.ensures.bound)) in
    rw (c.lower_price.ensures.price, c.lower_price.ensures.origin)
    (record {
      pricing = offered.0;
      priced = offered.1;
      count = omega (arith, c.tick.ensures, c.loop-q.invariant.count);
    })

pub returns-clause-priced : goal.returns-clause-priced
returns-clause-priced c =
    row_end _ _ c.loop-q.q _ _ c.loop-q.invariant.pricing
    (λ j after from there. let below = (c.in-Some-find_reachable_range.ensures.found.others j after there).1 in omega (arith, below))

pub returns-clause-row : goal.returns-clause-row
returns-clause-row c = λ end after below is_end.
    let span = c.in-Some-find_reachable_range.ensures in
    let within : c.in-Some-find_reachable_range.end ≤ end =
    span_within c.args.table.now c.requires.valid c.requires.orderly c.args.p _ _ end span.found after is_end in
    omega (arith, within, span.row, c.loop-q.invariant.count)
