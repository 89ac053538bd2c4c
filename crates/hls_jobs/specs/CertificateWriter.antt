-- The text of a certificate, written in parts.
use Rattle.std.specs.Prelude.{ℕ, List, ◌++◌, drop, map}
use Rattle.hls_check_tables.specs.Certificates.{CertificateData}
use Rattle.hls_check.specs.Text.{place_line, claim_lines}
use Rattle.hls_text.specs.Lines.{text_of_lines}
use Rattle.hls_jobs.specs.declared.certificate_writer.CertificateWriter.TheInside.{Inside}
use Rattle.hls_catchup.specs.Jobs.Files.{certificate_of}

-- the rest of a certificate's text after its head and its first k places
abbrev pub rest_of_certificate : CertificateData → ℕ → List ℕ
rest_of_certificate c k = text_of_lines (map place_line (drop k c.table.places) ++ claim_lines c.shown)

-- the whole text: what is written, and the rest
abbrev pub full_text : Inside → List ℕ
full_text t = t.text.items ++ rest_of_certificate (certificate_of t.reply.value.cut_result) t.written
