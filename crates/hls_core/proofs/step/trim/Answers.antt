-- A Trim is refused for an unknown rendition, past the trim limit and in a full log, and repeats if its floor isn't above the present one.
-- Otherwise it leads to the trimmed recording, and only an allocation failure can refuse it.
use Rattle.std.proofs.Common.{rules, ◌≡◌, ◌∙◌, Err, arith, refl, sym}
use Rattle.hls_core_laws.specs.declared.refusal.Refusal.TheVariants.{Memory}
use Rattle.hls_core.proofs.Goes.{room_of, within, trim_unknown, trim_again, trim_far, trim_full, trim_new, trim_begun, trim_within, trim_goes, trims_as, steps_trims}
use Rattle.hls_core.proofs.step.trim.Goals as goal

pub returns-in_default : goal.returns-in_default
returns-in_default c = (trim_unknown c.args.snapshot.now c.args.rendition c.args.floor c.in_default.ensures.none, refl)

pub returns-then-floor : goal.returns-then-floor
returns-then-floor c = (trim_again c.args.snapshot.now c.args.rendition c.args.floor c.in-Some.old.now c.in-Some.ensures.some (omega (arith, c.floor.ensures, c.if-floor.true)), refl)

pub returns-then-trim_limit-floor : goal.returns-then-trim_limit-floor
returns-then-trim_limit-floor c =
    (trim_far c.args.snapshot.now c.args.rendition c.args.floor c.in-Some.old.now c.in-Some.ensures.some (omega (arith, c.floor.ensures, c.if-floor.false)) (omega (arith, c.trim_limit.ensures, c.if-trim_limit-floor.true)), refl)

pub returns-then-is_full : goal.returns-then-is_full
returns-then-is_full c = (trim_full c.args.snapshot.now c.args.rendition c.args.floor c.in-Some.old.now c.in-Some.ensures.some (omega (arith, c.floor.ensures, c.if-floor.false)) (omega (arith, c.trim_limit.ensures, c.if-trim_limit-floor.false)) (sym c.is_full.ensures ∙ c.if-is_full.true), refl)

pub returns-in_err-trimmed : goal.returns-in_err-trimmed
returns-in_err-trimmed c =
    let memory : c.from_residual.result ≡ Err Memory = search rules in
    rw memory (trim_new c.args.snapshot.now c.args.rendition c.args.floor c.in-Some.old.now c.in-Some.ensures.some (omega (arith, c.floor.ensures, c.if-floor.false)) (omega (arith, c.trim_limit.ensures, c.if-trim_limit-floor.false)) (room_of c.args.snapshot.now c.is_full.result c.is_full.ensures c.if-is_full.false), refl)

pub returns-in_err-rendition_state : goal.returns-in_err-rendition_state
returns-in_err-rendition_state c =
    let memory : c.from_residual-in_err-rendition_state.result ≡ Err Memory = search rules in
    rw memory (trim_new c.args.snapshot.now c.args.rendition c.args.floor c.in-Some.old.now c.in-Some.ensures.some (omega (arith, c.floor.ensures, c.if-floor.false)) (omega (arith, c.trim_limit.ensures, c.if-trim_limit-floor.false)) (room_of c.args.snapshot.now c.is_full.result c.is_full.ensures c.if-is_full.false), refl)

pub unreachable-requires : goal.unreachable-requires
unreachable-requires c =
    trim_begun c.args.snapshot.now c.args.rendition c.args.floor c.in-Some.old.now c.in-Some.ensures.some c.in_default-recording.is
    (omega (arith, c.floor.ensures, c.if-floor.false)) (omega (arith, c.trim_limit.ensures, c.if-trim_limit-floor.false))

pub trimmed-requires-clause-high : goal.trimmed-requires-clause-high
trimmed-requires-clause-high c =
    trim_within c.args.snapshot.now c.args.rendition c.args.floor c.in-Some.old.now _ c.in-Some.ensures.some c.in-Some-recording.is
    (omega (arith, c.floor.ensures, c.if-floor.false)) (omega (arith, c.trim_limit.ensures, c.if-trim_limit-floor.false))

pub with_trim-requires-clause-there : goal.with_trim-requires-clause-there
with_trim-requires-clause-there c =
    within c.args.snapshot.now c.args.rendition c.in-Some.old.now c.in-Some.ensures.some

pub with_trim-requires-clause-trim : goal.with_trim-requires-clause-trim
with_trim-requires-clause-trim c =
    let goes = trim_goes c.args.snapshot.now c.args.by c.args.rendition c.args.floor c.in-Some.old.now c.in-Some-recording.recording
    c.in_ok-trimmed.field-0 c.rendition.ensures.valid c.in-Some.ensures.some c.in-Some-recording.is
    (omega (arith, c.floor.ensures, c.if-floor.false)) (omega (arith, c.trim_limit.ensures, c.if-trim_limit-floor.false))
    (room_of c.args.snapshot.now c.is_full.result c.is_full.ensures c.if-is_full.false) c.in_ok-trimmed.ensures.value c.in_ok-trimmed.ensures.valid in
    (trims_as c.in_ok-rendition_state.ensures goes).trim

pub returns : goal.returns
returns c =
    let goes = trim_goes c.args.snapshot.now c.args.by c.args.rendition c.args.floor c.in-Some.old.now c.in-Some-recording.recording
    c.in_ok-trimmed.field-0 c.rendition.ensures.valid c.in-Some.ensures.some c.in-Some-recording.is
    (omega (arith, c.floor.ensures, c.if-floor.false)) (omega (arith, c.trim_limit.ensures, c.if-trim_limit-floor.false))
    (room_of c.args.snapshot.now c.is_full.result c.is_full.ensures c.if-is_full.false) c.in_ok-trimmed.ensures.value c.in_ok-trimmed.ensures.valid in
    steps_trims c.with_trim.result c.into_stepped.result (trims_as c.in_ok-rendition_state.ensures goes)
    c.with_trim.ensures c.into_stepped.ensures.new c.into_stepped.ensures.refused
