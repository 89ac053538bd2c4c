-- The present place reaches the next if their pair is allowed (`step_more`).
use Rattle.std.proofs.Common.{◌≡◌, ◌+◌, ◌∷◌, List, length, sym, ap, arith, subst}
use Rattle.hls_check_tables.specs.declared.spot.Spot.{Spot}
use Rattle.hls_check_tables.specs.Tables.{place_at}
use Rattle.hls_check_tables.specs.Steps.{IsPlaceStep}
use Rattle.hls_places_laws.specs.Order.{spots_of}
use Rattle.hls_commands.proofs.Whole.{length_spots}
use Rattle.hls_commands.proofs.Walked.{next_place, step_more}
use Rattle.hls_commands.proofs.find_first_refused.find_first_refused.Goals as goal

pub overflow_add-place : goal.overflow_add-place
overflow_add-place c = omega (arith, c.loop-to.invariant.count, c.requires.few)

pub loop-to-preserved : goal.loop-to-preserved
loop-to-preserved c =
    let next = next_place c.args.places.now.items c.loop-to.walk c.next_place-in-loop-to.new.walk c.loop-to.place c.in-Some-next_place.to.now
    c.loop-to.invariant.left c.in-Some-next_place.ensures in
    let long : length c.loop-to.walk ≡ length (c.in-Some-next_place.to.now ∷ c.next_place-in-loop-to.new.walk) = ap length c.in-Some-next_place.ensures in
    let places = spots_of c.args.places.now.items in
    let step = subst (λ (p : List Spot). IsPlaceStep c.args.target p (place_at places (c.loop-to.place + 1))) (sym c.loop-to.invariant.here)
    (subst (λ (q : List Spot). IsPlaceStep c.args.target c.loop-to.from.now.spots q) (sym next.0) (c.pair_allowed.ensures.0 c.if-not-pair_allowed.false)) in
    record {
      count = omega (arith, long, c.loop-to.invariant.count);
      here = next.0;
      left = next.1;
      before = step_more c.args.target _ c.loop-to.place c.loop-to.invariant.before step;
    }

pub returns : goal.returns
returns c = λ i within.
    let count = length_spots c.args.places.now.items in
    let over : length c.loop-to.walk ≡ 0 = ap length c.in_default-next_place.ensures.0 in
    c.loop-to.invariant.before i (omega (arith, count, over, within, c.loop-to.invariant.count))
