-- The first p rows have been examined; their examinations are at most one for each pair, and for each row at most an eighth more than its reach.
use Rattle.std.proofs.Common.{◌≡◌, ℕ, ◌+◌, ◌*◌, ◌/◌, ◌≤◌, length}
use Rattle.hls_plan.specs.PairCounts.{pair_count, EndsWithin}
use Rattle.hls_plan.specs.Pricing.{IsPricing}
use Rattle.hls_plan.proofs.price_table.relax_rows.Given as goal

abbrev pub invariant-loop-p : goal.invariant-loop-p
invariant-loop-p l = record {
  priced : IsPricing l.table l.p 0 l.prices l.origins;
  rises : l.initial.ticks ≤ l.ticks;
  room : l.ticks ≤ l.initial.ticks + l.p * 16384;
  pairs : (left : ℕ) → l.p + left ≡ length l.table.places →
      l.ticks + pair_count left ≤ l.initial.ticks + pair_count (length l.table.places);
  rows : (reach : ℕ) → EndsWithin l.table reach → l.ticks ≤ l.initial.ticks + l.p * (reach + reach / 8);
}
