-- By the state of the look the unit may be submitted as mending makes it, or it is ahead of the channel.
use Rattle.std.proofs.Common.{◌≡◌, Ok, true, rules, subst}
use Rattle.hls_core_laws.specs.State.{State}
use Rattle.hls_api.{specs.Ingest.MaySubmit, proofs.Callers.acted_on}
use Rattle.hls_connection.specs.{IngestStates.progress_of, MendingStates.MakesMended}
use Rattle.hls_connection.proofs.{MendLaws.decides_submit, PassLaws.usable_acted}
use Rattle.hls_connection.proofs.ingest_sink.IngestSink.decide_unit.Goals as goal

pub returns-in_default-clause-usable : goal.returns-in_default-clause-usable
returns-in_default-clause-usable g c = usable_acted _ _ _ _ _ _ _ c.look.ensures.act_steps c.requires.usable

pub returns-in_err-mended-clause-usable : goal.returns-in_err-mended-clause-usable
returns-in_err-mended-clause-usable g c = usable_acted _ _ _ _ _ _ _ c.look.ensures.act_steps c.requires.usable

pub may_submit-requires : goal.may_submit-requires
may_submit-requires g c = record { usable = usable_acted _ _ _ _ _ _ _ c.look.ensures.act_steps c.requires.usable }

pub returns-then-may_submit-clause-act_steps : goal.returns-then-may_submit-clause-act_steps
returns-then-may_submit-clause-act_steps g c = acted_on _ _ _ _ _ _ _ c.look.ensures.act_steps c.may_submit.ensures.act_steps

pub returns-then-may_submit-clause-decides : goal.returns-then-may_submit-clause-decides
returns-then-may_submit-clause-decides g c =
    let made : c.deref.result.now ≡ c.in-Ok.state.value = search rules in
    let asked : c.deref-2.result.now ≡ c.in-Ok.state.value = search rules in
    decides_submit c.args.settings c.args.self.now.encoder.rendition (progress_of c.args.taken.now) (progress_of c.may_submit.new.taken) c.args.unit c.in-Ok.state.value c.look.new.acts
    c.in_ok-mended.mended c.in-Ok.ensures.looks
    (subst (λ (s : State). MakesMended c.args.settings c.args.self.now.encoder.rendition c.args.taken.now.init s c.args.unit (Ok c.in_ok-mended.mended)) made c.in_ok-mended.ensures.mends)
    (subst (λ (s : State). MaySubmit c.args.settings c.args.self.now.encoder.rendition s c.args.unit.facts c.look.new.acts c.may_submit.new.taken.acts true) asked c.if-may_submit.ensures.may)
    c.if-may_submit.ensures.same

pub returns-clause-act_steps : goal.returns-clause-act_steps
returns-clause-act_steps g c = acted_on _ _ _ _ _ _ _ c.look.ensures.act_steps c.may_submit.ensures.act_steps
