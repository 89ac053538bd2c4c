-- The unit is read under the init section that was found, so it may be submitted.
use Rattle.std.proofs.Common.{◌≡◌, Some, refl, rules}
use Rattle.hls_media_laws.specs.IsInitOrUnit.{IsUnit}
use Rattle.hls_api.proofs.Callers.{acted_on}
use Rattle.hls_connection.{specs.IngestStates.progress_of, proofs.PassLaws.{fits_unit, unit_refused, usable_acted}}
use Rattle.hls_connection.proofs.ingest_sink.IngestSink.take_unit.Goals as goal

pub submit-requires : goal.submit-requires
submit-requires g c =
    let is : IsUnit c.in-Some.init c.args.bytes c.in-Ok.facts = search rules in
    let found : c.find_init.new.taken.init ≡ Some c.in-Some.init = search rules in
    fits_unit c.args.self.now.encoder.rendition (g.K.Keeper.known c.find_init.new.keeper) c.find_init.new.taken.init c.in-Some.init c.in-Ok.facts c.args.bytes c.find_init.ensures.usable found is

pub returns-in-Ok-submit-clause-usable : goal.returns-in-Ok-submit-clause-usable
returns-in-Ok-submit-clause-usable g c = usable_acted _ _ _ _ _ _ _ c.submit.ensures.act_steps c.find_init.ensures.usable

pub returns-in-Err-submit-clause-usable : goal.returns-in-Err-submit-clause-usable
returns-in-Err-submit-clause-usable g c = usable_acted _ _ _ _ _ _ _ c.submit.ensures.act_steps c.find_init.ensures.usable

pub returns-in-Ok-submit-clause-act_steps : goal.returns-in-Ok-submit-clause-act_steps
returns-in-Ok-submit-clause-act_steps g c = acted_on _ _ _ _ _ _ _ c.find_init.ensures.act_steps c.submit.ensures.act_steps

pub returns-in-Err-submit-clause-act_steps : goal.returns-in-Err-submit-clause-act_steps
returns-in-Err-submit-clause-act_steps g c = acted_on _ _ _ _ _ _ _ c.find_init.ensures.act_steps c.submit.ensures.act_steps

pub returns-in-Err-submit-clause-yields : goal.returns-in-Err-submit-clause-yields
returns-in-Err-submit-clause-yields g c =
    let is : IsUnit c.in-Some.init c.args.bytes c.in-Ok.facts = search rules in
    let found : c.find_init.new.taken.init ≡ Some c.in-Some.init = search rules in
    let y = progress_of c.find_init.new.taken in
    rw c.into_feed_fault.ensures (unit_refused c.args.self.now.encoder.rendition (progress_of c.args.taken.now) y (record y { acts = c.submit.new.acts }) c.args.bytes c.in-Some.init c.in-Ok.facts
    c.in-Err-submit.refusal c.in_ok-find_init.ensures.finds found is refl c.in-Err-submit.ensures.submits)
