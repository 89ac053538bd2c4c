-- Before each round, the copy has the places so far, in order.
use Rattle.std.proofs.Common.{◌≡◌, take}
use Rattle.hls_check_tables.proofs.certificate_table.CertificateTable.copy_table.Given as goal

abbrev pub invariant-loop-place : goal.invariant-loop-place
invariant-loop-place l = l.places.items ≡ take l.place-index l.place-items
