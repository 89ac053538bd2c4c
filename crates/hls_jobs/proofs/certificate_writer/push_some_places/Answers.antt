-- After more places are written, the text so far and the rest of the certificate are still its whole text.
use Rattle.std.proofs.Common.{◌≤◌, ◌∙◌, ap, rules}
use Rattle.hls_check_tables.specs.Tables.{Table}
use Rattle.hls_jobs.proofs.CertificateTexts.{places-on}
use Rattle.hls_jobs.proofs.certificate_writer.push_some_places.Goals as goal

pub returns : goal.returns
returns c =
    let far : c.min-from.result ≤ c.min-stop.result = search rules in
    places-on c.args.certificate.now c.places-places.result.now c.args.text.now.items c.push_places.new.out.items c.args.written c.min-from.result c.min-stop.result
    (c.places-places.ensures ∙ ap (λ (t : Table). t.places) c.table.ensures.table) c.min-from.ensures far c.in_ok-push_places.ensures
