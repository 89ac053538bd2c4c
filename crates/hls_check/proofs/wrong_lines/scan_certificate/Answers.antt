-- The header, the places and the claim are the whole text. So a text without a wrong line in any of them is a certificate's;
-- otherwise the line that is found is the first wrong one.
use Rattle.std.proofs.Common.{◌+◌}
use Rattle.hls_check_tables.specs.Tables.{table_of}
use Rattle.hls_check.specs.Stages.{SkipsPlaces}
use Rattle.hls_check.proofs.wrong_lines.scan_certificate.Goals as goal

pub returns : goal.returns
returns c =
    let lines_read : SkipsPlaces c.in_ok-head.head c.args.bytes.now c.in_ok-rest.rest.now (c.in_ok-head.lines_read + c.in_ok-head.head.count) =
    c.in_ok-rest.ensures.at c.args.bytes.now c.in_ok-head.ensures.head in
    c.scan_claim.ensures c.args.bytes.now
    (table_of c.in_ok-head.head.goal c.in_ok-head.head.renditions lines_read.places) lines_read.count lines_read.at
