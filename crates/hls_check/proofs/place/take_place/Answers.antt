-- A place is read if the text begins with a spot for each rendition and an LF. If any of these is missing,
-- the text doesn't begin with a place line.
use Rattle.std.proofs.Common.{ℕ, ◌≡◌, subst, arith}
use Rattle.hls_check.proofs.PlaceTexts.{SpotsRead, no_first_spot, one_read, no_next_spot, one_more_read, place_taken, no_end_of_line}
use Rattle.hls_check.proofs.place.take_place.Goals as goal

pub returns-in_default : goal.returns-in_default
returns-in_default c = no_first_spot c.args.renditions c.args.text.now c.requires.0 c.in_default.ensures

pub loop-r-init : goal.loop-r-init
loop-r-init c =
    rw (c.in_ok-push.ensures.items, c.in_ok-spots.ensures.items)
    (one_read c.args.renditions c.args.text.now c.in-Some.first c.in-Some.after_first.now c.requires.0 c.in-Some.ensures)

pub returns-in_default-take_next_spot : goal.returns-in_default-take_next_spot
returns-in_default-take_next_spot c =
    no_next_spot c.args.renditions c.args.text.now c.loop-r.spots.items c.loop-r.rest.now c.loop-r._r c.loop-r.invariant c.loop-r-test.true
    c.in_default-take_next_spot.ensures

pub loop-r-preserved : goal.loop-r-preserved
loop-r-preserved c =
    rw c.in_ok-push-2.ensures.items
    (one_more_read c.args.renditions c.args.text.now c.loop-r.spots.items c.loop-r.rest.now c.loop-r._r c.in-Some-take_next_spot.spot
    c.in-Some-take_next_spot.after.now c.loop-r.invariant c.in-Some-take_next_spot.ensures)

pub returns-in-Some-take_byte : goal.returns-in-Some-take_byte
returns-in-Some-take_byte c =
    let all : c.loop-r._r ≡ c.args.renditions = omega arith in
    rw c.in_ok-new-in-Some-take_byte.ensures
    (place_taken c.args.renditions c.args.text.now c.loop-r.spots.items c.loop-r.rest.now c.in-Some-take_byte.after.now
    (subst (λ (r : ℕ). SpotsRead c.args.renditions c.args.text.now c.loop-r.spots.items c.loop-r.rest.now r) all c.loop-r.invariant)
    c.in-Some-take_byte.ensures)

pub returns : goal.returns
returns c =
    let all : c.loop-r._r ≡ c.args.renditions = omega arith in
    no_end_of_line c.args.renditions c.args.text.now c.loop-r.spots.items c.loop-r.rest.now
    (subst (λ (r : ℕ). SpotsRead c.args.renditions c.args.text.now c.loop-r.spots.items c.loop-r.rest.now r) all c.loop-r.invariant)
    c.in-None.ensures
