-- The head that is written, and all places and the claim that remain, are the text of the reply's certificate.
use Rattle.std.proofs.Common.{◌∙◌, ℕ, List, ◌++◌, length, ap}
use Rattle.hls_check_tables.specs.Tables.{Table}
use Rattle.hls_check.specs.Text.{head_lines}
use Rattle.hls_text.specs.Lines.{text_of_lines}
use Rattle.hls_catchup.specs.{Jobs.Files.certificate_of, Replies.ReplyData}
use Rattle.hls_jobs.proofs.CertificateTexts.{head-written}
use Rattle.hls_jobs.proofs.certificate_writer.CertificateWriter.new.Goals as goal

pub returns : goal.returns
returns c =
    let table = c.table.result.now in
    head-written c.args.reply.value.cut_result c.certificate_of.result.now c.push_head.new.out.items
    (c.certificate_of.ensures ∙ ap certificate_of (c.cut_result.ensures ∙ ap (λ (r : ReplyData). r.cut_result) c.deref.ensures))
    (c.in_ok-push_head.ensures
    ∙ ap (λ (t : List ℕ). t ++ text_of_lines (head_lines table.goal table.renditions (length table.places))) c.new-text.ensures.items
    ∙ ap (λ (t : Table). text_of_lines (head_lines t.goal t.renditions (length t.places))) c.table.ensures.table)
