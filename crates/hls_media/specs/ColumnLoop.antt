-- A partial sum over rows.
-- For the proofs of this crate; no public clause cites it.
use Rattle.std.specs.Prelude.{◌≡◌, ℕ, ◌+◌, ◌*◌, ◌≤◌, List, length, sum}
use Rattle.hls_media_laws.specs.Fields.{column}

-- after some rows of a column, the total and the sum over the rows that remain are the sum over all rows,
-- and one field was counted for each row
pub record IsPartialSum (row at : ℕ) (rows rest : ℕ × List ℕ) (total before now : ℕ) : Type 0 where
  pub value : total + sum (column rest.0 row at rest.1) ≡ sum (column rows.0 row at rows.1)
  pub room : rest.0 * row ≤ length rest.1
  pub bound : total + rest.0 * 4294967295 ≤ rows.0 * 4294967295
  pub counted : rest.0 ≤ rows.0
  pub ticked : now + rest.0 ≡ before + rows.0
