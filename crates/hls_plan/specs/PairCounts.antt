-- The maximum number of pairs of places that a planner examines.

use Rattle.std.specs.Prelude.{ℕ, zero, suc, ◌+◌, ◌<◌, length}
use Rattle.hls_check_tables.specs.Tables.{Table}
use Rattle.hls_check_tables.specs.Orders.{IsRowEnd}

-- the number of pairs of n places
abbrev pub pair_count : ℕ → ℕ
pair_count zero = 0
pair_count (suc n) = n + pair_count n

-- each place's row of pairs ends within `reach` places, unless the table ends first: the place that is `reach` places later is too far
-- away, or after a gap
pub record EndsWithin (t : Table) (reach : ℕ) : Type 0 where
  pub some : 0 < reach
  pub ends : (p : ℕ) → p + reach < length t.places → IsRowEnd t p (p + reach)
