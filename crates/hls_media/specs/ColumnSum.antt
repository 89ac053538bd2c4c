-- The sum of the values of samples.
-- For the proofs of this crate; no public clause cites it.
use Rattle.std.specs.Prelude.{ℕ, List, Option}
use Rattle.hls_media_laws.specs.Fields.{total, some_missing}
use Rattle.hls_media.specs.declared.trun_columns.ColumnSum.{ColumnSum}

-- the sum of the values that exist, and whether one is missing
abbrev pub column_sum : List (Option ℕ) → ColumnSum
column_sum vs = record { total = total vs; lacking = some_missing vs }
