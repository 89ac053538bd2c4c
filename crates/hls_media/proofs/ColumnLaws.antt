-- Columns of numbers, and values by defaults.
use Rattle.std.proofs.Common.{◌≡◌, ℕ, zero, suc, ◌+◌, ◌-◌, ◌*◌, ◌<◌, ◌≤◌, nat_lt, false, List, [], ◌∷◌, map, drop, replicate, sum, Option, Some, None, unwrap_or, refl, sym, ◌∙◌, ap, arith}
use Rattle.std.specs.Int.{w32}
use Rattle.std.proofs.lemmas.Bool.{lt-ltb}
use Rattle.std.proofs.lemmas.List.Sums.{sum_by-cons}
use Rattle.std.proofs.lemmas.List.Folds.{sum_by-replicate}
use Rattle.hls_boxes.specs.Boxes.{number_at}
use Rattle.hls_media_laws.specs.Fields.{column, total, some_missing}

-- if n rows fit, n - 1 rows fit after the first one
pub rows_less : (n row len : ℕ) → 0 < n → n * row ≤ len → (n - 1) * row ≤ len - row
rows_less zero row len some fits = absurd (omega arith)
rows_less (suc n) row len some fits = let e : suc n - 1 ≡ n = omega arith in rw e (omega arith)

-- if some rows fit, so does one
pub row_fits : (n row len : ℕ) → 0 < n → n * row ≤ len → row ≤ len
row_fits zero row len some fits = absurd (omega arith)
row_fits (suc n) row len some fits = grind arith

-- the sum of a column is the number in its first row and the sum over the other rows
pub column-step : (n row at : ℕ) (bytes : List ℕ) → 0 < n → sum (column n row at bytes) ≡ number_at w32 at bytes + sum (column (n - 1) row at (drop row bytes))
unfolding column
column-step zero row at bytes some = absurd (omega arith)
column-step (suc n) row at bytes some = let e : suc n - 1 ≡ n = omega arith in rw e (sum_by-cons (λ (v : ℕ). v) (number_at w32 at bytes) (column n row at (drop row bytes)))

-- the sum of a column without rows is 0
pub column-none : (n row at : ℕ) (bytes : List ℕ) → n ≡ 0 → sum (column n row at bytes) ≡ 0
unfolding column
column-none zero row at bytes none = refl
column-none (suc n) row at bytes none = absurd (omega arith)

-- the total of values that all exist is their sum
pub total-fields : (xs : List ℕ) → total (map Some xs) ≡ sum xs
total-fields [] = refl
total-fields (x ∷ xs) = sum_by-cons (λ (v : Option ℕ). unwrap_or v 0) (Some x) (map Some xs) ∙ ap (λ (n : ℕ). x + n) (total-fields xs) ∙ sym (sum_by-cons (λ (v : ℕ). v) x xs)

-- no value is missing if all exist
pub lacks-fields : (xs : List ℕ) → some_missing (map Some xs) ≡ false
lacks-fields [] = refl
lacks-fields (x ∷ xs) = lacks-fields xs

-- the total of n defaults is n times the default, or 0 without one
pub total-defaults : (n : ℕ) (o : Option ℕ) → total (replicate n o) ≡ n * unwrap_or o 0
total-defaults n o = sum_by-replicate (λ (v : Option ℕ). unwrap_or v 0) n o

-- no value is missing if there is a default
pub lacks-defaults : (n : ℕ) (v : ℕ) → some_missing (replicate n (Some v)) ≡ false
lacks-defaults zero v = refl
lacks-defaults (suc n) v = lacks-defaults n v

-- without a default, a value is missing if there is any sample
pub lacks-none : (n : ℕ) → some_missing (replicate n None) ≡ nat_lt 0 n
lacks-none zero = refl
lacks-none (suc n) = sym (lt-ltb 0 (suc n) (omega arith))
