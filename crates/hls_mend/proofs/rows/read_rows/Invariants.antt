-- The samples read and those of the rows that are left are all samples, and these rows fit the bytes that are left.
use Rattle.std.proofs.Common.{◌≡◌, ◌++◌, ◌*◌, ◌≤◌, length}
use Rattle.hls_mend_laws.specs.FragmentsRead.{row_width, rows_samples}
use Rattle.hls_mend.proofs.rows.read_rows.Given as goal

abbrev pub invariant-rows : goal.invariant-rows
invariant-rows l = record {
  joined : l.samples.items ++ rows_samples l.left l.format l.rest ≡ rows_samples l.count l.format l.rows;
  room : l.left * row_width l.format ≤ length l.rest;
}

abbrev pub decreases-rows : goal.decreases-rows
decreases-rows l = l.left
