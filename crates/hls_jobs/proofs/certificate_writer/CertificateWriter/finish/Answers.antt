-- The text so far, the places that aren't written yet, and the claim together are the certificate's whole text.
use Rattle.std.proofs.Common.{◌∙◌, ◌++◌, ap}
use Rattle.hls_check_tables.specs.Certificates.{CertificateData}
use Rattle.hls_check_tables.specs.Tables.{Table}
use Rattle.hls_jobs.specs.CertificateWriter.{rest_of_certificate}
use Rattle.hls_catchup.specs.{Jobs.Files.certificate_of, Replies.ReplyData}
use Rattle.hls_jobs.proofs.CertificateTexts.{all-written}
use Rattle.hls_jobs.proofs.certificate_writer.CertificateWriter.finish.Goals as goal

pub returns : goal.returns
returns c =
    let certificate = c.certificate_of-certificate.result.now in
    let places = c.places-places.result.now in
    let text = c.self.inside.text.items in
    let written = c.self.inside.written in
    all-written certificate places text c.push_places.new.out.items c.push_claim.new.out.items written c.min.result
    (c.places-places.ensures ∙ ap (λ (t : Table). t.places) c.table.ensures.table) c.min.ensures c.in_ok-push_places.ensures c.in_ok-push_claim.ensures
    ∙ ap (λ (d : CertificateData). text ++ rest_of_certificate d written) (c.certificate_of-certificate.ensures ∙ ap certificate_of (c.cut_result.ensures ∙ ap (λ (r : ReplyData). r.cut_result) c.deref.ensures))
    ∙ c.self.view_is
