-- For the proofs of this crate; no public clause cites it.

use Rattle.std.specs.Prelude.{ℕ, ◌+◌, ◌-◌, ◌/◌, ◌<◌, ◌≤◌, length, Option, Some, None}
use Rattle.hls_check_tables.specs.Tables.{Table}
use Rattle.hls_check_tables.specs.Steps.{Allowed}
use Rattle.hls_check_tables.specs.Orders.{IsRowEnd}

-- no step leads forward from place p
abbrev pub IsNoStep : Table → ℕ → Type 0
IsNoStep t p = (j : ℕ) → p < j → Allowed t p j → ⊥

-- the first place after place p that a step from it leads to
pub record IsFirstStep (t : Table) (p q : ℕ) : Type 0 where
  pub forward : p < q
  pub allowed : Allowed t p q
  pub none_before : (j : ℕ) → p < j → j < q → Allowed t p j → ⊥

-- the later places that steps from place p lead to are those in `first..end`
pub record IsSpan (t : Table) (p first end : ℕ) : Type 0 where
  pub forward : p < first
  pub some : first < end
  pub within : end ≤ length t.places
  pub each : (j : ℕ) → first ≤ j → j < end → Allowed t p j
  pub others : (j : ℕ) → p < j → Allowed t p j → (first ≤ j) × (j < end)

-- finding the span of row p, and examining each of its places once, takes at most one examination for each of the row's pairs
abbrev pub HasPairLooks : Table → ℕ → Option (ℕ × ℕ) → ℕ → ℕ → Type 0
HasPairLooks t p None old new = new + p + 1 ≤ old + length t.places
HasPairLooks t p (Some (first, end)) old new = new + (end - first) + p + 1 ≤ old + length t.places

-- without a span, finding that out takes at most one examination for each place up to the row's end; with one, finding it and examining its places
-- takes at most an eighth more than one for each place up to the span's end
abbrev pub HasRowLooks : Table → ℕ → Option (ℕ × ℕ) → ℕ → ℕ → Type 0
HasRowLooks t p None old new =
    (end : ℕ) → p < end → end < length t.places → IsRowEnd t p end → new + p ≤ old + end
HasRowLooks t p (Some (first, end)) old new = new + (end - first) + p ≤ old + end + (end - p - 1) / 8
