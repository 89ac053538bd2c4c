-- If a further rendition allows the step from place p to place q, all renditions examined so far allow it.
use Rattle.std.proofs.Common.{◌≡◌, ℕ, List, refl}
use borrow.Author.Count.{below_more}
use Rattle.hls_check_tables.specs.declared.goal.Goal.{Goal}
use Rattle.hls_check_tables.specs.declared.spot.Spot.{Spot}
use Rattle.hls_check_tables.specs.Tables.{Table, spot_in, place_at}
use Rattle.hls_check_tables.specs.Steps.{IsSpotStep}
use Rattle.hls_check.proofs.steps.first_refusing_rendition.Goals as goal

-- if two spots are those of places p and q in rendition r and allow a step, the places allow it in that rendition
step_seen : (t : Table) (p q r : ℕ) (goal : Goal) (from to : List Spot) (a b : Spot) → goal ≡ t.goal → from ≡ place_at t.places p → to ≡ place_at t.places q
    → a ≡ spot_in from r → b ≡ spot_in to r → IsSpotStep goal.target a b
    → IsSpotStep t.goal.target (spot_in (place_at t.places p) r) (spot_in (place_at t.places q) r)
step_seen t p q r goal from to a b goal_is from_is to_is a_is b_is step = (rw (goal_is, a_is, b_is, from_is, to_is) at step)

pub loop-r-preserved : goal.loop-r-preserved
loop-r-preserved c =
    let table = c.args.table.now in
    below_more (λ k. IsSpotStep table.goal.target (spot_in (place_at table.places c.args.p) k) (spot_in (place_at table.places c.args.q) k))
    c.loop-r.r c.loop-r.invariant
    (step_seen table c.args.p c.args.q c.loop-r.r c.goal.result c.place-from.result.now c.place-to.result.now c.get.result c.get-in-loop-r.result
    c.goal.ensures c.place-from.ensures c.place-to.ensures c.get.ensures c.get-in-loop-r.ensures (c.if-not-spot_allowed.ensures.0 refl))
