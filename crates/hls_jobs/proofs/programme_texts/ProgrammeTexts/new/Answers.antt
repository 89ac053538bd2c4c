-- The reply is noted first, and the texts are made of it.
use Rattle.std.proofs.Common.{◌≡◌, ◌∙◌, ◌++◌, ◌∷◌, [], Some, ap, refl, sym}
use Rattle.hls_catchup.specs.Jobs.Files.{certificate_file}
use Rattle.hls_catchup.specs.Replies.{ReplyData}
use Rattle.hls_jobs.specs.ProgrammeTexts.{noted_reply}
use Rattle.hls_jobs.proofs.KeptTexts.{texts_made}
use Rattle.hls_jobs.proofs.programme_texts.ProgrammeTexts.new.Goals as goal

pub invariant_of-result : goal.invariant_of-result
invariant_of-result c =
    let made = c.deref-made.result.now in
    let noted : noted_reply c.and-noted.result.items ≡ Some made =
    ap noted_reply (c.and-noted.ensures ∙ ap (λ l. l ++ (c.args.reply.now, tt {0}) ∷ []) c.new.ensures) ∙ ap (λ (r : ReplyData). Some r) (sym c.deref-made.ensures) in
    texts_made _ made noted (record {
      request_is = c.request.ensures;
      right = record { state = refl; request_is = refl; right = c.snapshot.ensures.right };
      master = c.in_ok-master.ensures;
      lists = c.in_ok-lists.ensures;
      certificate = c.in_ok-certificate.ensures ∙ ap certificate_file (sym c.deref-made.ensures);
    })

pub returns : goal.returns
returns c = ap noted_reply (c.and-noted.ensures ∙ ap (λ l. l ++ (c.args.reply.now, tt {0}) ∷ []) c.new.ensures)
