-- A place line is skipped if the text begins with a spot for each rendition and an LF. If any of these is missing,
-- the text doesn't begin with a place line.
use Rattle.std.proofs.Common.{ℕ, ◌≡◌, subst, arith}
use Rattle.hls_check.proofs.Scans.{SpotsPassed, none_first, one_passed, none_next, one_more_passed, passed_or_not}
use Rattle.hls_check.proofs.place.skip_place.Goals as goal

pub returns-in_default : goal.returns-in_default
returns-in_default c = none_first c.args.renditions c.args.text.now c.requires c.in_default.ensures

pub loop-skipped-init : goal.loop-skipped-init
loop-skipped-init c = one_passed c.args.renditions c.args.text.now c.in-Some._first c.in-Some.after_first.now c.requires c.in-Some.ensures

pub returns-in_default-take_next_spot : goal.returns-in_default-take_next_spot
returns-in_default-take_next_spot c =
    none_next c.args.renditions c.args.text.now c.loop-skipped.rest.now c.loop-skipped._skipped c.loop-skipped.invariant c.loop-skipped-test.true
    c.in_default-take_next_spot.ensures

pub loop-skipped-preserved : goal.loop-skipped-preserved
loop-skipped-preserved c =
    one_more_passed c.args.renditions c.args.text.now c.loop-skipped.rest.now c.loop-skipped._skipped c.in-Some-take_next_spot._spot
    c.in-Some-take_next_spot.after.now c.loop-skipped.invariant c.in-Some-take_next_spot.ensures

pub returns : goal.returns
returns c =
    let all : c.loop-skipped._skipped ≡ c.args.renditions = omega arith in
    passed_or_not c.args.renditions c.args.text.now c.loop-skipped.rest.now c.take_byte.result
    (subst (λ (r : ℕ). SpotsPassed c.args.renditions c.args.text.now c.loop-skipped.rest.now r) all c.loop-skipped.invariant) c.take_byte.ensures
