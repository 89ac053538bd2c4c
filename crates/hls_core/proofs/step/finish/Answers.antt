-- A Finish is refused for an unknown or unbegun rendition and in a full log, and repeats if the rendition is finished.
-- Otherwise it leads to the same recording, and only an allocation failure can refuse it.
use Rattle.std.proofs.Common.{rules, ◌≡◌, ◌∙◌, Err, refl, sym}
use Rattle.hls_core_laws.specs.declared.refusal.Refusal.TheVariants.{Memory}
use Rattle.hls_core.proofs.Goes.{room_of, within, finish_unknown, finish_unbegun, finish_again, finish_full, finish_new, finish_goes, goes_as, steps_goes}
use Rattle.hls_core.proofs.step.finish.Goals as goal

pub returns-in_default : goal.returns-in_default
returns-in_default c = (finish_unknown c.args.snapshot.now c.args.rendition c.in_default.ensures.none, refl)

pub returns-in_default-recording : goal.returns-in_default-recording
returns-in_default-recording c = (finish_unbegun c.args.snapshot.now c.args.rendition c.in-Some.old.now c.in-Some.ensures.some c.in_default-recording.is, refl)

pub returns-then-old : goal.returns-then-old
returns-then-old c = (finish_again c.args.snapshot.now c.args.rendition c.in-Some.old.now c.in-Some-recording.recording c.in-Some.ensures.some c.in-Some-recording.is c.if-old.true, refl)

pub returns-then-is_full : goal.returns-then-is_full
returns-then-is_full c = (finish_full c.args.snapshot.now c.args.rendition c.in-Some.old.now c.in-Some-recording.recording c.in-Some.ensures.some c.in-Some-recording.is c.if-old.false (sym c.is_full.ensures ∙ c.if-is_full.true), refl)

pub returns-in_err-share : goal.returns-in_err-share
returns-in_err-share c =
    let memory : c.from_residual.result ≡ Err Memory = search rules in
    rw memory (finish_new c.args.snapshot.now c.args.rendition c.in-Some.old.now c.in-Some-recording.recording c.in-Some.ensures.some c.in-Some-recording.is c.if-old.false (room_of c.args.snapshot.now c.is_full.result c.is_full.ensures c.if-is_full.false), refl)

pub returns-in_err-rendition_state : goal.returns-in_err-rendition_state
returns-in_err-rendition_state c =
    let memory : c.from_residual-in_err-rendition_state.result ≡ Err Memory = search rules in
    rw memory (finish_new c.args.snapshot.now c.args.rendition c.in-Some.old.now c.in-Some-recording.recording c.in-Some.ensures.some c.in-Some-recording.is c.if-old.false (room_of c.args.snapshot.now c.is_full.result c.is_full.ensures c.if-is_full.false), refl)

pub with_rendition-requires-clause-there : goal.with_rendition-requires-clause-there
with_rendition-requires-clause-there c = within c.args.snapshot.now c.args.rendition c.in-Some.old.now c.in-Some.ensures.some

pub with_rendition-requires-clause-take : goal.with_rendition-requires-clause-take
with_rendition-requires-clause-take c =
    let goes = finish_goes c.args.snapshot.now c.args.by c.args.rendition c.in-Some.old.now c.in-Some-recording.recording
    c.in_ok-share.field-0 c.rendition.ensures.valid c.in-Some.ensures.some c.in-Some-recording.is c.if-old.false
    (room_of c.args.snapshot.now c.is_full.result c.is_full.ensures c.if-is_full.false) c.in_ok-share.ensures.value c.in_ok-share.ensures.valid in
    (goes_as c.in_ok-rendition_state.ensures goes).take

pub returns : goal.returns
returns c =
    let goes = finish_goes c.args.snapshot.now c.args.by c.args.rendition c.in-Some.old.now c.in-Some-recording.recording
    c.in_ok-share.field-0 c.rendition.ensures.valid c.in-Some.ensures.some c.in-Some-recording.is c.if-old.false
    (room_of c.args.snapshot.now c.is_full.result c.is_full.ensures c.if-is_full.false) c.in_ok-share.ensures.value c.in_ok-share.ensures.valid in
    steps_goes _ c.with_rendition.result c.into_stepped.result refl (goes_as c.in_ok-rendition_state.ensures goes)
    c.with_rendition.ensures c.into_stepped.ensures.new c.into_stepped.ensures.refused
