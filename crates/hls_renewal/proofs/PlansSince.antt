-- A table whose spots are counted from an earlier place has the same plans, at the same costs.
use Rattle.std.proofs.Common.{◌≡◌, ◌∙◌, ℕ, ◌+◌, ◌-◌, ◌<◌, false, List, [], ◌∷◌, length, arith, refl, sym, ap, subst}
use Rattle.std.specs.Prelude.{◌==◌}
use Rattle.std.specs.Int.{abs_diff}
use Rattle.std.proofs.lemmas.Bool.{cond-false}
use Rattle.std.proofs.lemmas.List.{get_or-map, length-map}
use Rattle.hls_check_tables.specs.declared.spot.Spot.{Spot}
use Rattle.hls_check_tables.specs.Plans.{IsLeast, IsPlan, StepsAreAllowed, cost_from, plan_cost}
use Rattle.hls_check_tables.specs.Steps.{Allowed, IsSpotStep, cost}
use Rattle.hls_check_tables.specs.Tables.{Table, charge_of, place_at, spot_in}
use Rattle.hls_places_laws.specs.FromPlace.{AreSpotsFrom, IsSpotFrom, spot_since, spots_since}
use Rattle.hls_places_laws.proofs.Callers.{from_at, spot_since_at}
use Rattle.hls_renewal.specs.Programmes.{HasSamePlans, table_since}

-- ---- a step in one rendition

-- the fragment before a later spot ends when it did
pub end-stays : (c t : Spot) → c.fragment < t.fragment → (spot_since c t).prev_end ≡ t.prev_end
end-stays c t later =
    let apart : (t.fragment == c.fragment) ≡ false = grind (arith) in
    cond-false (t.fragment == c.fragment) t.start t.prev_end apart

-- a step between two spots from the cut on that is allowed in a rendition is allowed when they are counted from the cut
spot-step : (target : ℕ) (c s t : Spot) → IsSpotFrom c s → IsSpotFrom c t → IsSpotStep target s t → IsSpotStep target (spot_since c s) (spot_since c t)
spot-step target c s t from to step =
    let before = from.fragment in
    let later = step.later in
    let stays = end-stays c t (omega (arith, before, later)) in
    let forward = step.forward in
    record {
      later = omega (arith, before, later);
      unbroken = ap (λ (n : ℕ). n - c.run_out) step.unbroken;
      forward = omega (arith, forward, stays);
      fits = rw stays step.fits;
    }

-- a step that is allowed between counted spots is allowed between the spots themselves
spot-back : (target : ℕ) (c s t : Spot) → IsSpotFrom c s → IsSpotFrom c t → IsSpotStep target (spot_since c s) (spot_since c t) → IsSpotStep target s t
spot-back target c s t from to step =
    let before = from.fragment in
    let counted = step.later in
    let later : s.fragment < t.fragment = omega (arith, before, counted) in
    let stays = end-stays c t (omega (arith, before, later)) in
    let forward = step.forward in
    let outs = from.outs in
    let ins = to.ins (omega (arith, before, later)) in
    let unbroken = step.unbroken in
    record {
      later = later;
      unbroken = omega (arith, unbroken, outs, ins);
      forward = omega (arith, forward, stays);
      fits = rw (sym stays) step.fits;
    }

-- ---- the steps of a table, and its plans

module _ (cut : List Spot) (t : Table) (some : 0 < t.renditions) (counts : t.renditions ≡ length cut)
    (after : (p : ℕ) → p < length t.places → AreSpotsFrom cut (place_at t.places p)) where
  -- the table, counted from the cut
  abbrev since : Table
  since = table_since cut t

  -- both tables have the same number of places
  long : length since.places ≡ length t.places
  long = length-map t.places (spots_since cut)

  -- place p of the counted table is place p of the table, counted from the cut
  pub mapped : (p : ℕ) → p < length t.places → place_at since.places p ≡ spots_since cut (place_at t.places p)
  mapped p h = get_or-map (spots_since cut) t.places p [] [] h

  -- in each rendition, the spot of a place of the counted table is that of the table, counted from the cut's
  pub spot : (p r : ℕ) → p < length t.places → r < t.renditions → spot_in (place_at since.places p) r ≡ spot_since (spot_in cut r) (spot_in (place_at t.places p) r)
  spot p r h within =
      ap (λ (spots : List Spot). spot_in spots r) (mapped p h)
      ∙ spot_since_at cut (place_at t.places p) r (after p h) (omega (arith, within, counts))

  -- no spot of the table precedes the cut's spot in its rendition
  pub from : (p r : ℕ) → p < length t.places → r < t.renditions → IsSpotFrom (spot_in cut r) (spot_in (place_at t.places p) r)
  from p r h within = from_at cut (place_at t.places p) r (after p h) (omega (arith, within, counts))

  -- a step that is allowed in the table is allowed in the counted one
  on : (p q : ℕ) → Allowed t p q → Allowed since p q
  on p q is =
      let there = is.from in
      let to = is.to in
      record {
        from = omega (arith, there, long);
        to = omega (arith, to, long);
        step = λ r h.
            subst (λ (y : Spot). IsSpotStep t.goal.target (spot_in (place_at since.places p) r) y) (sym (spot q r to h))
            (subst (λ (x : Spot). IsSpotStep t.goal.target x (spot_since (spot_in cut r) (spot_in (place_at t.places q) r))) (sym (spot p r there h))
            (spot-step t.goal.target (spot_in cut r) (spot_in (place_at t.places p) r) (spot_in (place_at t.places q) r) (from p r there h) (from q r to h) (is.step r h)));
      }

  -- a step that is allowed in the counted table is allowed in the table
  back : (p q : ℕ) → Allowed since p q → Allowed t p q
  back p q is =
      let counted = is.from in
      let counted_to = is.to in
      let there : p < length t.places = omega (arith, counted, long) in
      let to : q < length t.places = omega (arith, counted_to, long) in
      record {
        from = there;
        to = to;
        step = λ r h.
            spot-back t.goal.target (spot_in cut r) (spot_in (place_at t.places p) r) (spot_in (place_at t.places q) r) (from p r there h) (from q r to h)
            (subst (λ (y : Spot). IsSpotStep t.goal.target (spot_since (spot_in cut r) (spot_in (place_at t.places p) r)) y) (spot q r to h)
            (subst (λ (x : Spot). IsSpotStep t.goal.target x (spot_in (place_at since.places q) r)) (spot p r there h) (is.step r h)));
      }

  -- an allowed step has the same cost in both tables
  same-cost : (p q : ℕ) → Allowed t p q → cost since p q ≡ cost t p q
  same-cost p q is =
      let before = (from p 0 is.from some).fragment in
      let later = (is.step 0 some).later in
      let end : (spot_in (place_at since.places q) 0).prev_end ≡ (spot_in (place_at t.places q) 0).prev_end =
      ap (λ (x : Spot). x.prev_end) (spot q 0 is.to some) ∙ end-stays (spot_in cut 0) (spot_in (place_at t.places q) 0) (omega (arith, before, later)) in
      let start : (spot_in (place_at since.places p) 0).start ≡ (spot_in (place_at t.places p) 0).start = ap (λ (x : Spot). x.start) (spot p 0 is.from some) in
      ap (λ (n : ℕ). abs_diff (n - (spot_in (place_at since.places p) 0).start) t.goal.preferred + charge_of t.goal.rule) end
      ∙ ap (λ (n : ℕ). abs_diff ((spot_in (place_at t.places q) 0).prev_end - n) t.goal.preferred + charge_of t.goal.rule) start

  -- steps that are allowed in the table are allowed in the counted one, at the same cost
  steps-on : (p : ℕ) (rest : List ℕ) → StepsAreAllowed t p rest → StepsAreAllowed since p rest × (cost_from since p rest ≡ cost_from t p rest)
  steps-on p [] are = (tt, refl)
  steps-on p (q ∷ rest) are =
      let others = steps-on q rest are.1 in
      let here = same-cost p q are.0 in
      let there = others.1 in
      ((on p q are.0, others.0), omega (arith, here, there))

  -- steps that are allowed in the counted table are allowed in the table
  steps-back : (p : ℕ) (rest : List ℕ) → StepsAreAllowed since p rest → StepsAreAllowed t p rest
  steps-back p [] are = tt
  steps-back p (q ∷ rest) are = (back p q are.0, steps-back q rest are.1)

  -- a plan of the table is a plan of the counted one, at the same cost
  plan-on : (plan : List ℕ) → IsPlan t plan → IsPlan since plan × (plan_cost since plan ≡ plan_cost t plan)
  plan-on [] is = absurd is
  plan-on (p ∷ rest) is =
      let steps = steps-on p rest is.2 in
      ((is.0, is.1 ∙ ap (λ (n : ℕ). n - 1) (sym long), steps.0), steps.1)

  -- a plan of the counted table is a plan of the table
  plan-back : (plan : List ℕ) → IsPlan since plan → IsPlan t plan
  plan-back [] is = absurd is
  plan-back (p ∷ rest) is = (is.0, is.1 ∙ ap (λ (n : ℕ). n - 1) long, steps-back p rest is.2)

  -- a least plan of the table is least in the counted one
  least-on : (plan : List ℕ) → IsLeast t plan → IsLeast since plan
  least-on plan is = record {
    is_plan = (plan-on plan is.is_plan).0;
    least = λ other also.
        let earlier = plan-back other also in
        let less = is.least other earlier in
        let one = (plan-on plan is.is_plan).1 in
        let two = (plan-on other earlier).1 in
        omega (arith, less, one, two);
  }

  -- a least plan of the counted table is least in the table
  least-back : (plan : List ℕ) → IsLeast since plan → IsLeast t plan
  least-back plan is = record {
    is_plan = plan-back plan is.is_plan;
    least = λ other also.
        let less = is.least other (plan-on other also).0 in
        let one = (plan-on plan (plan-back plan is.is_plan)).1 in
        let two = (plan-on other also).1 in
        omega (arith, less, one, two);
  }

  -- both tables have the same plans, at the same costs, and the same ones are least
  pub same_plans : HasSamePlans t since
  same_plans = record { plans = plan-on; no_others = plan-back; least = least-on; least_before = least-back }
