-- Only places before q have steps to it. So the first broken step to q from the rows before q is the first from all of these rows.
use Rattle.hls_check_tables.specs.Certificates.{claim_data}
use Rattle.hls_check.proofs.Seen.{whole_column}
use Rattle.hls_check.proofs.rows.column_fault.Goals as goal

pub returns : goal.returns
returns c =
    whole_column c.args.table.now (claim_data c.args.claim.now) c.args.places.start c.args.places.end c.args.q c.min.result c.first_broken_in_column.result
    c.min.ensures c.first_broken_in_column.ensures
