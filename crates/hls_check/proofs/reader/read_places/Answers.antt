-- Place lines are read until there are as many as the header says. If one is bad or missing, it is the first wrong line, or memory fails.
use Rattle.std.proofs.Common.{ℕ, ◌≡◌, ◌+◌, Err, subst, arith, rules}
use Rattle.hls_check.specs.Stages.{AtPlace, Builds}
use Rattle.hls_check.proofs.Wrongs.{PlacesRead, stops_building, no_place_read, place_more, at_place, at_claim}
use Rattle.hls_check.proofs.reader.read_places.Goals as goal

pub loop-p-init : goal.loop-p-init
loop-p-init c = rw c.new-places.ensures.items (no_place_read c.args.head c.args.text.now)

pub returns-in_err-place-clause-at : goal.returns-in_err-place-clause-at
returns-in_err-place-clause-at c = λ bytes at.
    let stops : Builds bytes (Err c.in_err-place.field-0.0) =
    stops_building (AtPlace c.args.head c.loop-p.places.items) tt bytes c.loop-p.rest.now (c.args.first + c.loop-p.p)
    (at_place c.args.head bytes c.args.text.now c.args.first c.loop-p.places.items c.loop-p.rest.now c.loop-p.p at c.loop-p.invariant c.loop-p-test.true)
    c.in_err-place.field-0.0 c.in_err-place.ensures.line in
    search rules

pub loop-p-preserved : goal.loop-p-preserved
loop-p-preserved c =
    rw c.in_ok-push.ensures.items
    (place_more c.args.head c.args.text.now c.loop-p.places.items c.loop-p.rest.now c.loop-p.p c.in_ok-place.place c.in_ok-place.after.now
    c.loop-p.invariant c.in_ok-place.ensures.line.0 c.in_ok-place.ensures.line.1 c.in_ok-place.ensures.shorter)

pub returns-clause-at : goal.returns-clause-at
returns-clause-at c = λ bytes at.
    let all : c.loop-p.p ≡ c.args.head.count = omega arith in
    at_claim c.args.head bytes c.args.text.now c.args.first c.loop-p.places.items c.loop-p.rest.now at
    (subst (λ (p : ℕ). PlacesRead c.args.head c.args.text.now c.loop-p.places.items c.loop-p.rest.now p) all c.loop-p.invariant)
