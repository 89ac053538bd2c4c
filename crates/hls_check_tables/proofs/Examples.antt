-- Five places at 0, 3, 6, 7 and 11 s, target 6 s, preferred 4 s, by the definitions, under both rules.
use Rattle.std.proofs.Common.{◌≡◌, ℕ, [], ◌∷◌, arith, refl}
use Rattle.hls_check_tables.specs.declared.cost_rule.CostRule.{CostRule}
use Rattle.hls_check_tables.specs.declared.cost_rule.CostRule.TheVariants.{Deviation, Charged}
use Rattle.hls_check_tables.specs.declared.spot.Spot.{Spot}
use Rattle.hls_check_tables.specs.Tables.{Table, goal_of}
use Rattle.hls_check_tables.specs.Steps.{IsSpotStep, cost}
use Rattle.hls_check_tables.specs.Plans.{plan_cost, last_place}

-- a spot at this fragment and time, without gaps before it
abbrev spot_at : ℕ → ℕ → Spot
spot_at fragment time = record { fragment = fragment; prev_end = time; start = time; run_in = 0; run_out = 0 }

-- the five places, with this rule for the cost
abbrev five_units_by : CostRule → Table
five_units_by rule = record {
  goal = goal_of 6 4000000 rule;
  renditions = 1;
  places =
      (spot_at 0 0 ∷ []) ∷ (spot_at 1 3000000 ∷ []) ∷ (spot_at 2 6000000 ∷ []) ∷ (spot_at 3 7000000 ∷ []) ∷
      (spot_at 4 11000000 ∷ []) ∷ [];
}

-- the five places by rule 1
abbrev five_units : Table
five_units = five_units_by Deviation

-- the optimal plan has segments of 3, 4 and 4 s
least_costs : plan_cost five_units (0 ∷ 1 ∷ 3 ∷ 4 ∷ []) ≡ 1000000
least_costs = refl

-- cutting at the first place after the preferred length gives 6 and 5 s
greedy_costs : plan_cost five_units (0 ∷ 2 ∷ 4 ∷ []) ≡ 3000000
greedy_costs = refl

-- a charge of 3 s for each segment makes two segments cheaper than three
charged_costs : plan_cost (five_units_by (Charged 3000000)) (0 ∷ 2 ∷ 4 ∷ []) ≡ 9000000
charged_costs = refl

-- at that charge the plan of three segments costs more
charged_more : plan_cost (five_units_by (Charged 3000000)) (0 ∷ 1 ∷ 3 ∷ 4 ∷ []) ≡ 10000000
charged_more = refl

-- just below a charge of 2 s the plan of three segments costs less: 6999997
three_below : plan_cost (five_units_by (Charged 1999999)) (0 ∷ 1 ∷ 3 ∷ 4 ∷ []) ≡ 6999997
three_below = refl

-- just below a charge of 2 s the plan of two segments costs more: 6999998
two_below : plan_cost (five_units_by (Charged 1999999)) (0 ∷ 2 ∷ 4 ∷ []) ≡ 6999998
two_below = refl

-- just above a charge of 2 s the plan of three segments costs more: 7000003
three_above : plan_cost (five_units_by (Charged 2000001)) (0 ∷ 1 ∷ 3 ∷ 4 ∷ []) ≡ 7000003
three_above = refl

-- just above a charge of 2 s the plan of two segments costs less: 7000002
two_above : plan_cost (five_units_by (Charged 2000001)) (0 ∷ 2 ∷ 4 ∷ []) ≡ 7000002
two_above = refl

-- a charge of 0 costs nothing, but is a rule of its own
free_costs : plan_cost (five_units_by (Charged 0)) (0 ∷ 1 ∷ 3 ∷ 4 ∷ []) ≡ 1000000
free_costs = refl

-- the optimal plan ends with the last place
least_ends : last_place 0 (1 ∷ 3 ∷ 4 ∷ []) ≡ 4
least_ends = refl

-- a step that is too short costs the same as one that is too long by the same length
short_costs : cost five_units 0 1 ≡ 1000000
short_costs = refl

-- a segment just below 6.5 s fits a target of 6 s
rounded_down : IsSpotStep 6 (spot_at 0 0) (spot_at 1 6499999)
rounded_down = record { later = omega arith; unbroken = refl; forward = omega arith; fits = omega arith }

-- a segment of 6.5 s rounds up to 7 s, so it doesn't
rounded_up : IsSpotStep 6 (spot_at 0 0) (spot_at 1 6500000) → ⊥
rounded_up step = omega (arith, step.fits)

-- a step across a gap isn't allowed
across_gap : IsSpotStep 6 (spot_at 0 0)
    (record { fragment = 2; prev_end = 5000000; start = 5000000; run_in = 1; run_out = 1 }) → ⊥
across_gap step = omega (arith, step.unbroken)

-- a step may lead to a place that follows a gap immediately
up_to_gap : IsSpotStep 6 (spot_at 0 0)
    (record { fragment = 1; prev_end = 4000000; start = 6000000; run_in = 0; run_out = 1 })
up_to_gap = record { later = omega arith; unbroken = refl; forward = omega arith; fits = omega arith }
