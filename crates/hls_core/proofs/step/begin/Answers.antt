-- A Begin that passes its tests leads to an empty recording; after the tests only an allocation failure can refuse it.
use Rattle.std.proofs.Common.{rules, ◌≡◌, Err, refl}
use Rattle.hls_core_laws.specs.declared.refusal.Refusal.TheVariants.{Memory}
use Rattle.hls_core.proofs.Goes.{new_begins, begin_new, begin_within, begin_goes, goes_as, take_as, steps_goes}
use Rattle.hls_core.proofs.step.begin.Goals as goal

pub returns-in_err-is_new : goal.returns-in_err-is_new
returns-in_err-is_new c =
    let same : c.from_residual.result ≡ Err c.in_err-is_new.field-0.0 = search rules in
    rw same (c.in_err-is_new.ensures.meets c.args.init, refl)

pub returns-in_err-share : goal.returns-in_err-share
returns-in_err-share c =
    let may = new_begins c.args.snapshot.now c.args.rendition c.args.bytes c.in_ok-is_new.is_new c.in_ok-is_new.ensures.meets c.if-not-is_new.false in
    let memory : c.from_residual-in_err-share.result ≡ Err Memory = search rules in
    rw memory (begin_new c.args.snapshot.now c.args.rendition c.args.init c.args.bytes may, refl)

pub returns-in_err-rendition_state : goal.returns-in_err-rendition_state
returns-in_err-rendition_state c =
    let may = new_begins c.args.snapshot.now c.args.rendition c.args.bytes c.in_ok-is_new.is_new c.in_ok-is_new.ensures.meets c.if-not-is_new.false in
    let memory : c.from_residual-in_err-rendition_state.result ≡ Err Memory = search rules in
    rw memory (begin_new c.args.snapshot.now c.args.rendition c.args.init c.args.bytes may, refl)

pub with_rendition-requires-clause-room : goal.with_rendition-requires-clause-room
with_rendition-requires-clause-room c =
    (new_begins c.args.snapshot.now c.args.rendition c.args.bytes c.in_ok-is_new.is_new c.in_ok-is_new.ensures.meets c.if-not-is_new.false).room

pub with_rendition-requires-clause-there : goal.with_rendition-requires-clause-there
with_rendition-requires-clause-there c =
    begin_within c.args.snapshot.now c.args.rendition
    (new_begins c.args.snapshot.now c.args.rendition c.args.bytes c.in_ok-is_new.is_new c.in_ok-is_new.ensures.meets c.if-not-is_new.false)

pub with_rendition-requires-clause-take : goal.with_rendition-requires-clause-take
with_rendition-requires-clause-take c =
    let may = new_begins c.args.snapshot.now c.args.rendition c.args.bytes c.in_ok-is_new.is_new c.in_ok-is_new.ensures.meets c.if-not-is_new.false in
    let goes = begin_goes c.args.snapshot.now c.args.by c.args.rendition c.args.init c.args.bytes c.begin-recording.result
    c.check_begin.ensures.valid may c.requires c.begin-recording.ensures.value c.begin-recording.ensures.valid in
    take_as _ (rw (c.in_ok-share.ensures, c.len.ensures.value) refl) (goes_as c.in_ok-rendition_state.ensures goes)

pub returns : goal.returns
returns c =
    let may = new_begins c.args.snapshot.now c.args.rendition c.args.bytes c.in_ok-is_new.is_new c.in_ok-is_new.ensures.meets c.if-not-is_new.false in
    let goes = begin_goes c.args.snapshot.now c.args.by c.args.rendition c.args.init c.args.bytes c.begin-recording.result
    c.check_begin.ensures.valid may c.requires c.begin-recording.ensures.value c.begin-recording.ensures.valid in
    steps_goes _ c.with_rendition.result c.into_stepped.result (rw (c.in_ok-share.ensures, c.len.ensures.value) refl) (goes_as c.in_ok-rendition_state.ensures goes)
    c.with_rendition.ensures c.into_stepped.ensures.new c.into_stepped.ensures.refused
