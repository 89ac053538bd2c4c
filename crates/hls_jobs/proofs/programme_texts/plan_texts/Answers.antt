-- If the request has a right answer, the texts that are made of it are those for the request.
use Rattle.hls_jobs.proofs.KeptTexts.{texts_for}
use Rattle.hls_jobs.proofs.programme_texts.plan_texts.Goals as goal

pub returns-in-Ok : goal.returns-in-Ok
returns-in-Ok c =
    texts_for c.args.snapshot.now.value c.args.request c.answer.result c.in-Ok.reply c.make_texts.result c.answer.ensures c.in-Ok.is c.make_texts.ensures
