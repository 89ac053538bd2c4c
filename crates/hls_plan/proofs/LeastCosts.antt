-- When all rows have been examined, the prices are the least costs of the places that can be reached.
use Rattle.std.proofs.Common.{◌≡◌, ℕ, zero, suc, ◌+◌, ◌<◌, ◌≤◌, List, [], ◌∷◌, ◌++◌, length, map, is_some, Option, Some, None, MatchOption, Bool, arith, refl, sym, ap, ◌∙◌, subst, inl, inr}
use Rattle.std.specs.Bool.{MatchBool}
use Rattle.std.proofs.Math.ListN.{get_or-map}
use Rattle.std.proofs.lemmas.Bool.{cases_eq}
use Rattle.hls_check_tables.specs.Tables.{Table, IsTable}
use Rattle.hls_check_tables.specs.Steps.{Allowed, cost}
use Rattle.hls_check_tables.specs.Orders.{IsSorted}
use Rattle.hls_check_tables.specs.Plans.{StepsAreAllowed, last_place, cost_from}
use Rattle.hls_check_tables.specs.Certificates.{price_at, is_closed, KeepsPrice}
use Rattle.hls_check_tables.proofs.Walks.{price-end}
use Rattle.hls_plan.specs.Pricing.{IsPricing}
use Rattle.hls_plan.specs.Paths.{IsPathTo, IsReachable, IsLeastCost, HasLeastPrices, HasReachable}

-- a path of allowed steps with one more allowed step is one
Leads-push : (t : Table) (p : ℕ) (path : List ℕ) (q : ℕ) → StepsAreAllowed t p path → Allowed t (last_place p path) q → StepsAreAllowed t p (path ++ q ∷ [])
Leads-push t p [] q steps_allowed allowed = (allowed, tt)
Leads-push t p (x ∷ path) q steps_allowed allowed = (steps_allowed.0, Leads-push t x path q steps_allowed.1 allowed)

-- a path with one more step ends at the place of that step
end_of-push : (p : ℕ) (path : List ℕ) (q : ℕ) → last_place p (path ++ q ∷ []) ≡ q
end_of-push p [] q = refl
end_of-push p (x ∷ path) q = end_of-push x path q

-- the cost of a path with one more step is the cost of the path plus that of the step
cost_from-push : (t : Table) (p : ℕ) (path : List ℕ) (q : ℕ) →
    cost_from t p (path ++ q ∷ []) ≡ cost_from t p path + cost t (last_place p path) q
cost_from-push t p [] q = omega arith
cost_from-push t p (x ∷ path) q = omega (arith, cost_from-push t x path q)

-- a path to place q that costs `price`
record IsPaidWay (t : Table) (q price : ℕ) : Type 0 where
  path : List ℕ
  is_path : IsPathTo t q path
  costs : cost_from t 0 path ≡ price

-- each place with a price is reached at that price
way_to : (t : Table) (p q : ℕ) (prices : List (Option ℕ)) (origins : List ℕ) → IsPricing t p q prices origins →
    (fuel k price : ℕ) → k ≤ fuel → price_at prices k ≡ Some price → IsPaidWay t k price
way_to t p q prices origins pricing zero k price within priced =
    let same : k ≡ 0 = omega arith in
    let first : price_at prices k ≡ Some 0 = ap (price_at prices) same ∙ pricing.start in
    let free : 0 ≡ price = cc in
    record { path = []; is_path = record { ends = sym same; steps_allowed = tt }; costs = free }
way_to t p q prices origins pricing (suc fuel) k price within priced =
    elim (cases_eq k 0) [
      | inl same ↦
          let first : price_at prices k ≡ Some 0 = ap (price_at prices) same ∙ pricing.start in
          let free : 0 ≡ price = cc in
          record { path = []; is_path = record { ends = sym same; steps_allowed = tt }; costs = free }
      | inr ne ↦
          let reached = pricing.reached k price (omega arith) priced in
          let before = way_to t p q prices origins pricing fuel _ reached.before (omega (arith, reached.earlier)) reached.priced in
          let ends = before.is_path.ends in
          let P : ℕ → Type 0 = λ x. Allowed t x k in
          let C : ℕ → Type 0 = λ x. cost_from t 0 (before.path ++ k ∷ []) ≡ cost_from t 0 before.path + cost t x k in
          let sum = subst C ends (cost_from-push t 0 before.path k) in
          record {
            path = before.path ++ k ∷ [];
            is_path = record {
              ends = end_of-push 0 before.path k;
              steps_allowed = Leads-push t 0 before.path k before.is_path.steps_allowed (subst P (sym ends) reached.allowed);
            };
            costs = omega (arith, sum, before.costs, reached.sum);
          }
    ]

-- each allowed forward step respects the prices: from a place with a price it leads to one whose price is at most that plus the step's cost
abbrev KeepsAll : Table → List (Option ℕ) → Type 0
KeepsAll t prices = (p q : ℕ) → p < q → Allowed t p q → KeepsPrice (cost t p q) (price_at prices p) (price_at prices q)

-- when all rows have been examined, each allowed step respects the prices
pub keeps_all : (t : Table) (prices : List (Option ℕ)) (origins : List ℕ) →
    IsPricing t (length t.places) 0 prices origins → KeepsAll t prices
keeps_all t prices origins pricing p q rises allowed = pricing.rows p q allowed.from rises allowed

-- no path to a place costs less than its price, and no path leads to a place without one
price_under : (t : Table) (prices : List (Option ℕ)) → IsTable t → IsSorted t → KeepsAll t prices →
    price_at prices 0 ≡ Some 0 → (k : ℕ) (path : List ℕ) → IsPathTo t k path →
    (b : ℕ) × (price_at prices k ≡ Some b) × (b ≤ cost_from t 0 path)
price_under t prices ok sorted keeps start k path is_path =
    let last = price-end t prices ok sorted keeps 0 path 0 start is_path.steps_allowed in
    let P : ℕ → Type 0 = λ x. price_at prices x ≡ Some last.0 in
    (last.0, subst P is_path.ends last.1, omega (arith, last.2))

-- when all rows have been examined, a place's price is its least cost, and a place without one can't be reached
least_at : (t : Table) (prices : List (Option ℕ)) (origins : List ℕ) → IsTable t → IsSorted t →
    IsPricing t (length t.places) 0 prices origins → (k : ℕ) (price : Option ℕ) → price_at prices k ≡ price →
    MatchOption price (IsReachable t k → ⊥) (IsLeastCost t k)
least_at t prices origins ok sorted pricing k None is =
    λ (reachable : IsReachable t k).
    let under = price_under t prices ok sorted (keeps_all t prices origins pricing) pricing.start k reachable.path reachable.is_path in
    let some : price_at prices k ≡ Some under.0 = under.1 in
    cc
least_at t prices origins ok sorted pricing k (Some price) is =
    let path = way_to t (length t.places) 0 prices origins pricing k k price (omega arith) is in
    record {
      path = path.path;
      is_path = path.is_path;
      costs = path.costs;
      least = λ other is_path.
          let under = price_under t prices ok sorted (keeps_all t prices origins pricing) pricing.start k other is_path in
          let some : price_at prices k ≡ Some under.0 = under.1 in
          let same : under.0 ≡ price = cc in
          omega (arith, same, under.2);
    }

-- when all rows have been examined, each price is the least cost of its place, and no other place can be reached
pub least_prices : (t : Table) (prices : List (Option ℕ)) (origins : List ℕ) → IsTable t → IsSorted t →
    IsPricing t (length t.places) 0 prices origins → HasLeastPrices t prices
least_prices t prices origins ok sorted pricing k in_table =
    least_at t prices origins ok sorted pricing k (price_at prices k) refl

-- a place is in the closed set if and only if it has a price
pub closed_at : (prices : List (Option ℕ)) (closed : List Bool) → closed ≡ map is_some prices →
    (k : ℕ) → is_closed closed k ≡ is_some (price_at prices k)
closed_at prices closed is k = ap (λ (xs : List Bool). is_closed xs k) is ∙ get_or-map is_some prices k None

-- a place can be reached if it has a least cost, and can't if that is excluded
reachable_at : (t : Table) (k : ℕ) (price : Option ℕ) → MatchOption price (IsReachable t k → ⊥) (IsLeastCost t k) →
    MatchBool (is_some price) (IsReachable t k) (IsReachable t k → ⊥)
reachable_at t k None none = none
reachable_at t k (Some price) least = record { path = least.path; is_path = least.is_path }

-- when all rows have been examined, the set of the places with a price is that of the places that can be reached
pub reachable_set : (t : Table) (prices : List (Option ℕ)) (origins : List ℕ) (closed : List Bool) → IsTable t → IsSorted t →
    IsPricing t (length t.places) 0 prices origins → closed ≡ map is_some prices → HasReachable t closed
reachable_set t prices origins closed ok sorted pricing is k in_table =
    let P : Bool → Type 0 = λ b. MatchBool b (IsReachable t k) (IsReachable t k → ⊥) in
    subst P (sym (closed_at prices closed is k))
    (reachable_at t k (price_at prices k) (least_prices t prices origins ok sorted pricing k in_table))
