-- Before each round, the prices account for the steps of all earlier rows and for those of row p to places before q; the price of p is unchanged.
-- One pair was counted for each place of the range so far.
use Rattle.std.proofs.Common.{◌≡◌, ◌+◌, Some}
use Rattle.hls_check_tables.specs.Certificates.{price_at}
use Rattle.hls_plan.specs.Pricing.{IsPricing}
use Rattle.hls_plan.proofs.price_table.relax_row.Given as goal

abbrev pub invariant-loop-q : goal.invariant-loop-q
invariant-loop-q l = record {
  pricing : IsPricing l.table l.p l.q l.prices l.origins;
  priced : price_at l.prices l.p ≡ Some l.price;
  count : l.ticks + l.first ≡ l.initial.ticks + l.q;
}
