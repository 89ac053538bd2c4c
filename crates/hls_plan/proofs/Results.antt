-- What follows from complete prices for the planner's result: a good certificate, an optimal plan or none, exact prices, and the form of a claim.
use Rattle.std.proofs.Common.{◌≡◌, ℕ, ◌-◌, ◌<◌, List, [], ◌∷◌, length, is_some, Option, Some, None, Bool, true, arith, refl, sym, ap, ◌∙◌, All}
use Rattle.std.proofs.lemmas.List.Elements.{All-nil, All-cons, All-from_get_or}
use Rattle.std.proofs.lemmas.List.{length-map}
use Rattle.hls_plan.specs.declared.planned.Planned.{Planned}
use Rattle.hls_plan.specs.declared.planned.Planned.TheVariants.{Cut, NoCut}
use Rattle.hls_check_tables.specs.Tables.{Table, IsTable}
use Rattle.hls_check_tables.specs.Steps.{cost}
use Rattle.hls_check_tables.specs.Orders.{IsSorted}
use Rattle.hls_check_tables.specs.Plans.{StepsAreAllowed, IsPlan, plan_cost}
use Rattle.hls_check_tables.specs.Certificates.{price_at, KeepsPrice, IsPriceInRange, IsCutForm, IsGoodCut, IsGoodNone, IsGood}
use Rattle.hls_check_tables.proofs.Walks.{least_from_good, no_plan_from_good}
use Rattle.hls_plan.specs.Planned.{certificate_of, HasClaimForm, IsBest, HasExactPrices}
use Rattle.hls_plan.specs.Pricing.{IsPricing, IsCutFound, IsNoneFound, IsPlannerResult}
use Rattle.hls_plan.proofs.LeastCosts.{keeps_all, least_prices, closed_at, reachable_set}

-- a plan with complete prices is a good certificate of a cut
good_cut : (t : Table) (plan : List ℕ) (prices : List (Option ℕ)) → IsSorted t → IsCutFound t plan prices →
    IsGoodCut t (plan_cost t plan) plan prices
good_cut t plan prices sorted found = record {
  sorted = sorted;
  is_plan = found.is_plan;
  paid = record { paid = refl; priced = found.paid };
  start = found.pricing.start;
  keeps = keeps_all t prices found.origins found.pricing;
}

-- a step from a place with a price leads to one with a price
Keeps-some : (step : ℕ) (from to : Option ℕ) → KeepsPrice step from to → is_some from ≡ true → is_some to ≡ true
Keeps-some step None to keeps some = cc
Keeps-some step (Some x) None keeps some = absurd keeps
Keeps-some step (Some x) (Some y) keeps some = refl

-- the set of the places with a price, without the last one, is a good certificate that there is no cut
good_none : (t : Table) (closed : List Bool) → IsSorted t → IsNoneFound t closed → IsGoodNone t closed
good_none t closed sorted found =
    let at = closed_at found.prices closed found.is in
    record {
      sorted = sorted;
      start = at 0 ∙ ap is_some found.pricing.start;
      keeps = λ p q rises allowed inside.
          at q ∙ Keeps-some (cost t p q) (price_at found.prices p) (price_at found.prices q)
          (keeps_all t found.prices found.origins found.pricing p q rises allowed) (sym (at p) ∙ inside);
      without_end = at (length t.places - 1) ∙ ap is_some found.unpriced;
    }

-- the certificate of the planner's result is good
pub good_from_found : (t : Table) → IsSorted t → (planned : Planned) → IsPlannerResult t planned → IsGood (certificate_of t planned)
good_from_found t sorted (Cut plan prices) found = good_cut t plan.items prices.items sorted found
good_from_found t sorted (NoCut closed) found = good_none t closed.items sorted found

-- the plan that the planner finds is optimal, and if it finds none, there is none
pub best_from_found : (t : Table) → IsTable t → IsSorted t → (planned : Planned) → IsPlannerResult t planned → IsBest t planned
best_from_found t ok sorted (Cut plan prices) found =
    least_from_good t (plan_cost t plan.items) plan.items prices.items ok (good_cut t plan.items prices.items sorted found)
best_from_found t ok sorted (NoCut closed) found =
    no_plan_from_good t closed.items ok (good_none t closed.items sorted found)

-- the result's prices are the least costs of the places that can be reached, and its closed set is the set of those
pub exact_from_found : (t : Table) → IsTable t → IsSorted t → (planned : Planned) → IsPlannerResult t planned → HasExactPrices t planned
exact_from_found t ok sorted (Cut plan prices) found = least_prices t prices.items found.origins ok sorted found.pricing
exact_from_found t ok sorted (NoCut closed) found =
    reachable_set t found.prices found.origins closed.items ok sorted found.pricing found.is

-- the places of a walk are places of the table
walk_in_range : (t : Table) (p : ℕ) (rest : List ℕ) → p < length t.places → StepsAreAllowed t p rest →
    All (λ x. x < length t.places) (p ∷ rest)
walk_in_range t p [] in_table steps_allowed = All-cons (λ x. x < length t.places) p [] in_table (All-nil (λ x. x < length t.places))
walk_in_range t p (q ∷ rest) in_table steps_allowed =
    All-cons (λ x. x < length t.places) p (q ∷ rest) in_table (walk_in_range t q rest steps_allowed.0.to steps_allowed.1)

-- the places of a plan are places of the table
plan_in_range : (t : Table) → IsTable t → (plan : List ℕ) → IsPlan t plan → All (λ x. x < length t.places) plan
plan_in_range t ok [] is_plan = absurd is_plan
plan_in_range t ok (p ∷ rest) is_plan = walk_in_range t p rest (omega (arith, is_plan.0, ok.count)) is_plan.2

-- a plan has at least one place
plan_not_empty : (t : Table) (plan : List ℕ) → IsPlan t plan → 0 < length plan
plan_not_empty t [] is_plan = absurd is_plan
plan_not_empty t (p ∷ rest) is_plan = omega arith

-- each price fits the range of a certificate
price_in_range : (t : Table) (prices : List (Option ℕ)) (origins : List ℕ) → IsTable t →
    IsPricing t (length t.places) 0 prices origins → (k : ℕ) → k < length prices → (price : Option ℕ) →
    price_at prices k ≡ price → IsPriceInRange price
price_in_range t prices origins ok pricing k in_table None is = tt
price_in_range t prices origins ok pricing k in_table (Some price) is =
    omega (arith, pricing.bound k price is, ok.count, pricing.one_each)

-- a plan with complete prices has the form of a claim
cut_form : (t : Table) (plan : List ℕ) (prices : List (Option ℕ)) → IsTable t → IsCutFound t plan prices →
    IsCutForm (length t.places) (plan_cost t plan) plan prices
cut_form t plan prices ok found = record {
  total_small = omega (arith, found.pricing.bound (length t.places - 1) (plan_cost t plan) found.paid, ok.count);
  not_empty = plan_not_empty t plan found.is_plan;
  in_range = plan_in_range t ok plan found.is_plan;
  one_each = found.pricing.one_each;
  prices_small = All-from_get_or IsPriceInRange prices None
      (λ k in_table. price_in_range t prices found.origins ok found.pricing k in_table (price_at prices k) refl);
}

-- the planner's result has the form of a claim, so it can be written as text
pub shown_from_found : (t : Table) → IsTable t → (planned : Planned) → IsPlannerResult t planned → HasClaimForm t planned
shown_from_found t ok (Cut plan prices) found = cut_form t plan.items prices.items ok found
shown_from_found t ok (NoCut closed) found =
    ap length found.is ∙ length-map found.prices is_some ∙ found.pricing.one_each
