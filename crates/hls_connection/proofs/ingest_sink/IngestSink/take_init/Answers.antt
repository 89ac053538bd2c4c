-- An init section that was usable before the submission is usable after it. Without memory nothing is submitted;
-- if the submission is refused, so is the part.
use Rattle.std.proofs.Common.{inl, refl, rules}
use Rattle.hls_media_laws.specs.IsInitOrUnit.{IsInit}
use Rattle.hls_connection.{specs.IngestStates.progress_of, proofs.PassLaws.{init_refused, usable_acted}}
use Rattle.hls_connection.proofs.ingest_sink.IngestSink.take_init.Goals as goal

pub returns-in-Ok-submit-clause-usable : goal.returns-in-Ok-submit-clause-usable
returns-in-Ok-submit-clause-usable g c = usable_acted _ _ _ _ _ _ _ c.submit.ensures.act_steps c.requires.usable

pub returns-in-Err-submit-clause-usable : goal.returns-in-Err-submit-clause-usable
returns-in-Err-submit-clause-usable g c = usable_acted _ _ _ _ _ _ _ c.submit.ensures.act_steps c.requires.usable

pub returns-in-Err-Memory-clause-yields : goal.returns-in-Err-Memory-clause-yields
returns-in-Err-Memory-clause-yields g c = (c.args.taken.now.acts, inl refl, inl refl)

pub returns-in-Err-submit-clause-yields : goal.returns-in-Err-submit-clause-yields
returns-in-Err-submit-clause-yields g c =
    let is : IsInit c.args.bytes c.in-Ok.init = search rules in
    let x = progress_of c.args.taken.now in
    rw c.into_feed_fault.ensures
    (init_refused c.args.self.now.encoder.rendition x (record x { acts = c.submit.new.acts }) c.args.bytes c.in-Ok.init c.in-Err-submit.refusal is refl c.in-Err-submit.ensures.submits)
