-- The text kept for a rendition is that of its playlist in the reply, or none if the reply has no such playlist.
use Rattle.std.proofs.Common.{◌∙◌, ap}
use Rattle.std.specs.Prelude.{slice_get}
use Rattle.hls_jobs.specs.ProgrammeTexts.{noted_reply}
use Rattle.hls_jobs.proofs.KeptTexts.{texts_of}
use Rattle.hls_jobs.proofs.ListTexts.{lists_at}
use Rattle.hls_jobs.proofs.programme_texts.ProgrammeTexts.list.Goals as goal

pub returns : goal.returns
returns c = λ reply is.
    let texts = texts_of c.self.inside (noted_reply c.self.inside.reply.items) reply c.self.invariant (c.self.view_is ∙ is) in
    c.get_text.ensures ∙ ap (λ lists. slice_get lists c.args.rendition) c.deref.ensures.value ∙ lists_at reply c.self.inside.lists.items c.args.rendition texts.lists
