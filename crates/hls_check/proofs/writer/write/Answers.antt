-- What is written is the certificate's text: the lines of its table, then those of its claim.
use Rattle.std.proofs.Common.{◌++◌, ap, ◌∙◌, refl, List, ℕ}
use Rattle.hls_text.specs.Lines.{text_of_lines}
use Rattle.hls_check_tables.specs.Tables.{Table}
use Rattle.hls_check.specs.Text.{table_lines}
use Rattle.hls_check.proofs.Written.{text_written}
use Rattle.hls_check.proofs.writer.write.Goals as goal

pub returns : goal.returns
returns c =
    text_written c.args.certificate.now c.args.certificate.now.shown c.push_table.new.out.items c.push_claim.new.out.items
    refl
    (c.in_ok-push_table.ensures ∙ ap (λ (xs : List ℕ). xs ++ text_of_lines (table_lines c.table.result.now)) c.new-out.ensures.items
    ∙ ap (λ (t : Table). text_of_lines (table_lines t)) c.table.ensures.table)
    c.in_ok-push_claim.ensures
