-- From the first broken step of a block to the first of all.
use Rattle.std.proofs.Common.{ℕ, inl, inr, arith}
use Rattle.std.proofs.lemmas.Bool.{cases_lt}
use Rattle.hls_check_tables.specs.Tables.{Table}
use Rattle.hls_check_tables.specs.Certificates.{ClaimData}
use Rattle.hls_check.specs.Faults.{IsFirstBrokenStep}
use Rattle.hls_check.specs.Rows.{StepKeepsPrices, RowsKeepPrices, IsFirstOfRows}

-- the first broken step of a block is the first of all, if the rows before the block respect the prices
pub first_of_all : (t : Table) (shown : ClaimData) (first end p q : ℕ) → RowsKeepPrices t shown 0 first →
    IsFirstOfRows t shown first end p q → IsFirstBrokenStep (StepKeepsPrices t shown) p q
first_of_all t shown first end p q before found = record {
  in_row = found.in_row;
  rows = λ i j below.
      elim (cases_lt i first) [
        | inl low ↦ before i j (omega arith) low
        | inr high ↦ found.rows i j high below
      ];
}
