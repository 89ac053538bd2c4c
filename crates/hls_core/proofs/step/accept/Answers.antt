-- A unit that passes its tests is appended to the recording, whose room is the last test; then only an allocation failure can refuse it.
use Rattle.std.proofs.Common.{rules, ◌≡◌, Err, refl, arith}
use Rattle.hls_core_laws.specs.declared.refusal.Refusal.TheVariants.{Memory}
use Rattle.hls_core.proofs.Goes.{accept_large, accept_small, accepts_units, accepts_within, accepts_goes, goes_as, steps_goes}
use Rattle.hls_core.proofs.step.accept.Goals as goal

pub returns-in_err-met : goal.returns-in_err-met
returns-in_err-met c =
    let same : c.from_residual.result ≡ Err c.in_err-met.field-0.0 = search rules in
    rw same (c.in_err-met.ensures.refused, refl)

pub returns-in_default : goal.returns-in_default
returns-in_default c = (c.in_ok-met.ensures.repeated c.in_default.is, refl)

pub appended-requires-clause-room : goal.appended-requires-clause-room
appended-requires-clause-room c =
    let may = rw c.in-Some.is at c.in_ok-met.ensures.new in
    omega (arith, may.room, accepts_units c.args.snapshot.now c.args.rendition c.in-Some.recording.now c.args.facts c.check_accept.ensures.valid may)

pub returns-in-Err-Overlap : goal.returns-in-Err-Overlap
returns-in-Err-Overlap c =
    let may = rw c.in-Some.is at c.in_ok-met.ensures.new in
    let overlap = rw c.in-Err-Overlap.field-0-is at c.in-Err-Overlap.ensures.cases in
    absurd (omega (arith, may.later, overlap))

pub returns-in-Err-Full : goal.returns-in-Err-Full
returns-in-Err-Full c =
    let may = rw c.in-Some.is at c.in_ok-met.ensures.new in
    let full = rw c.in-Err-Full.field-0-is at c.in-Err-Full.ensures.cases in
    (accept_large c.args.snapshot.now c.args.rendition c.in-Some.recording.now c.args.facts c.args.bytes may full.1, refl)

pub returns-in-Err-Memory : goal.returns-in-Err-Memory
returns-in-Err-Memory c =
    let may = rw c.in-Some.is at c.in_ok-met.ensures.new in
    let memory = rw c.in-Err-Memory.field-0-is at c.in-Err-Memory.ensures.cases in
    (accept_small c.args.snapshot.now c.args.rendition c.in-Some.recording.now c.args.facts c.args.bytes may memory.1, refl)

pub returns-in_err-rendition_state : goal.returns-in_err-rendition_state
returns-in_err-rendition_state c =
    let may = rw c.in-Some.is at c.in_ok-met.ensures.new in
    let memory : c.from_residual-in_err-rendition_state.result ≡ Err Memory = search rules in
    rw memory (accept_small c.args.snapshot.now c.args.rendition c.in-Some.recording.now c.args.facts c.args.bytes may c.in-Ok.ensures.cases.0.1, refl)

pub with_rendition-requires-clause-room : goal.with_rendition-requires-clause-room
with_rendition-requires-clause-room c = let may = rw c.in-Some.is at c.in_ok-met.ensures.new in may.room

pub with_rendition-requires-clause-there : goal.with_rendition-requires-clause-there
with_rendition-requires-clause-there c =
    let may = rw c.in-Some.is at c.in_ok-met.ensures.new in
    accepts_within c.args.snapshot.now c.args.rendition c.in-Some.recording.now c.args.facts may

pub with_rendition-requires-clause-take : goal.with_rendition-requires-clause-take
with_rendition-requires-clause-take c =
    let may = rw c.in-Some.is at c.in_ok-met.ensures.new in
    let goes = accepts_goes c.args.snapshot.now c.args.by c.args.rendition c.in-Some.recording.now c.in-Ok.recording c.args.facts c.args.bytes
    c.check_accept.ensures.valid may c.requires c.in-Ok.ensures.cases.0.1 c.in-Ok.ensures.cases.1 c.in-Ok.ensures.valid in
    (goes_as c.in_ok-rendition_state.ensures goes).take

pub returns : goal.returns
returns c =
    let may = rw c.in-Some.is at c.in_ok-met.ensures.new in
    let goes = accepts_goes c.args.snapshot.now c.args.by c.args.rendition c.in-Some.recording.now c.in-Ok.recording c.args.facts c.args.bytes
    c.check_accept.ensures.valid may c.requires c.in-Ok.ensures.cases.0.1 c.in-Ok.ensures.cases.1 c.in-Ok.ensures.valid in
    steps_goes _ c.with_rendition.result c.into_stepped.result refl (goes_as c.in_ok-rendition_state.ensures goes)
    c.with_rendition.ensures c.into_stepped.ensures.new c.into_stepped.ensures.refused
