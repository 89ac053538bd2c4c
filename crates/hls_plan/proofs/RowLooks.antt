-- The number of pairs that are examined in one row, and in all.
use Rattle.std.proofs.Common.{◌≡◌, ℕ, ◌+◌, ◌-◌, ◌*◌, ◌/◌, ◌<◌, ◌≤◌, length, arith, inl, inr}
use Rattle.std.proofs.lemmas.Bool.{cases_lt}
use Rattle.hls_check_tables.specs.Tables.{Table, IsTable}
use Rattle.hls_check_tables.specs.Orders.{IsRowEnd, IsOrderly}
use Rattle.hls_check_tables.proofs.RowEnds.{none_past_end}
use Rattle.hls_plan.specs.Spans.{IsSpan}
use Rattle.hls_plan.specs.PairCounts.{EndsWithin}

-- if each row takes at most `row` examinations, p + 1 rows take at most p + 1 times that number
pub one_more_row : (p row before first after : ℕ) → before ≤ first + p * row → after ≤ before + row →
    after ≤ first + (p + 1) * row
one_more_row p row before first after so_far more =
    let sum : (p + 1) * row ≡ p * row + row = omega arith in
    omega (arith, sum, so_far, more)

-- steps lead only to places before the row's end
pub span_within : (t : Table) → IsTable t → IsOrderly t → (p first last end : ℕ) → IsSpan t p first last →
    p < end → IsRowEnd t p end → last ≤ end
span_within t ok orderly p first last end span after is_end =
    let there = span.each (last - 1) (omega (arith, span.some)) (omega (arith, span.some)) in
    elim (cases_lt end last) [
      | inl below ↦ absurd (none_past_end t ok orderly p end there.from is_end (last - 1) (omega (arith, below)) there)
      | inr above ↦ omega (arith, above)
    ]

-- a row that ends within `reach` places, or at the table's end, takes at most an eighth more examinations than that
pub row_within : (t : Table) (p reach before after : ℕ) → EndsWithin t reach →
    after + p + 1 ≤ before + length t.places →
    ((end : ℕ) → p < end → end < length t.places → IsRowEnd t p end → after + p ≤ before + end + (end - p) / 8) →
    after ≤ before + (reach + reach / 8)
row_within t p reach before after within pairs row =
    elim (cases_lt (p + reach) (length t.places)) [
      | inl inside ↦
          let looks = row (p + reach) (omega (arith, within.some)) inside (within.ends p inside) in
          let same : p + reach - p ≡ reach = omega arith in
          omega (arith, rw same at looks)
      | inr outside ↦ omega (arith, pairs, outside)
    ]
