-- Along a walk of allowed steps: prices bound its cost from below, and a closed set isn't left.
use Rattle.std.proofs.Common.{◌≡◌, ℕ, zero, suc, ◌+◌, ◌-◌, ◌<◌, ◌≤◌, List, [], ◌∷◌, length, Option, Some, None, Bool, true, false, arith, add-zero, inl, inr, refl, sym, subst}
use Rattle.std.proofs.lemmas.Bool.{cases_lt}
use Rattle.hls_check_tables.specs.Tables.{Table, IsTable, spot_in, place_at}
use Rattle.hls_check_tables.specs.Steps.{Allowed, cost}
use Rattle.hls_check_tables.specs.Orders.{IsSorted}
use Rattle.hls_check_tables.specs.Plans.{StepsAreAllowed, last_place, cost_from, IsPlan, plan_cost, IsLeast, HasNoPlan}
use Rattle.hls_check_tables.specs.Certificates.{price_at, is_closed, KeepsPrice, CutKeepsPrices, IsGoodCut, IsGoodNone}

-- rendition 0's fragment at place p
abbrev fragment_of : Table → ℕ → ℕ
fragment_of t p = (spot_in (place_at t.places p) 0).fragment

-- in a sorted table the fragment number in rendition 0 never decreases, over any distance
fragment-never_falls : (t : Table) → IsTable t → IsSorted t → (p k : ℕ) → p + k < length t.places →
    fragment_of t p ≤ fragment_of t (p + k)
fragment-never_falls t ok sorted p zero h = rw add-zero (omega arith)
fragment-never_falls t ok sorted p (suc k) h =
    let so_far : fragment_of t p ≤ fragment_of t (p + k) = fragment-never_falls t ok sorted p k (omega arith) in
    let next : fragment_of t (p + k) ≤ fragment_of t (p + suc k) =
    ((sorted (p + suc k) h).after (p + k) (omega arith)).keeps 0 (omega (arith, ok.renditions)) in
    omega (arith, so_far, next)

-- over a sorted table, an allowed step leads forward
pub Allowed-rises : (t : Table) → IsTable t → IsSorted t → (p q : ℕ) → Allowed t p q → p < q
Allowed-rises t ok sorted p q allowed =
    elim (cases_lt p q) [
      | inl below ↦ below
      | inr above ↦
          let k : ℕ = p - q in
          let same : q + (p - q) ≡ p = omega arith in
          let P : ℕ → Type 0 = λ x. fragment_of t q ≤ fragment_of t x in
          let back : fragment_of t q ≤ fragment_of t p =
          subst P same (fragment-never_falls t ok sorted q (p - q) (omega (arith, allowed.from))) in
          let forth : fragment_of t p < fragment_of t q = (allowed.step 0 (omega (arith, ok.renditions))).later in
          absurd (omega (arith, back, forth))
    ]

-- after a step that respects the prices from a place with a price, the next place has one, at most higher by the step's cost
pub Keeps-priced : (step a : ℕ) (from to : Option ℕ) → from ≡ Some a → KeepsPrice step from to →
    (b : ℕ) × (to ≡ Some b) × (b ≤ a + step)
Keeps-priced step a None to priced keeps = cc
Keeps-priced step a (Some x) None priced keeps = absurd keeps
Keeps-priced step a (Some x) (Some y) priced keeps =
    let same : x ≡ a = cc in
    (y, refl, omega (arith, same, keeps))

-- along a walk from a place with a price each place has one, and it is at most the first price plus the cost of the walk
pub price-end : (t : Table) (prices : List (Option ℕ)) → IsTable t → IsSorted t →
    ((p q : ℕ) → CutKeepsPrices t prices p q) →
    (p : ℕ) (rest : List ℕ) (a : ℕ) → price_at prices p ≡ Some a → StepsAreAllowed t p rest →
    (b : ℕ) × (price_at prices (last_place p rest) ≡ Some b) × (b ≤ a + cost_from t p rest)
price-end t prices ok sorted keeps p [] a priced leads = (a, priced, omega arith)
price-end t prices ok sorted keeps p (q ∷ rest) a priced leads =
    let rises : p < q = Allowed-rises t ok sorted p q leads.0 in
    let next = Keeps-priced (cost t p q) a (price_at prices p) (price_at prices q) priced (keeps p q rises leads.0) in
    let last = price-end t prices ok sorted keeps q rest next.0 next.1 leads.1 in
    (last.0, last.1, omega (arith, last.2, next.2))

-- no plan costs less than the last place's price
total-least : (t : Table) (total : ℕ) (plan : List ℕ) (prices : List (Option ℕ)) → IsTable t →
    IsGoodCut t total plan prices → (other : List ℕ) → IsPlan t other → total ≤ plan_cost t other
total-least t total plan prices ok good [] is_plan = absurd is_plan
total-least t total plan prices ok good (p ∷ rest) is_plan =
    let P : ℕ → Type 0 = λ x. price_at prices x ≡ Some 0 in
    let first : price_at prices p ≡ Some 0 = subst P (sym is_plan.0) good.start in
    let last = price-end t prices ok good.sorted good.keeps p rest 0 first is_plan.2 in
    let at_end : price_at prices (last_place p rest) ≡ Some last.0 = last.1 in
    let Q : ℕ → Type 0 = λ x. price_at prices x ≡ Some last.0 in
    let at_last : price_at prices (length t.places - 1) ≡ Some last.0 = subst Q is_plan.1 at_end in
    let printed : price_at prices (length t.places - 1) ≡ Some total = good.paid.priced in
    let same : total ≡ last.0 = cc in
    omega (arith, same, last.2)

-- the plan of a good certificate of a cut is optimal
pub least_from_good : (t : Table) (total : ℕ) (plan : List ℕ) (prices : List (Option ℕ)) → IsTable t →
    IsGoodCut t total plan prices → IsLeast t plan
least_from_good t total plan prices ok good = record {
  is_plan = good.is_plan;
  least = λ other is_plan. omega (arith, good.paid.paid, total-least t total plan prices ok good other is_plan);
}

-- a walk of allowed steps from the closed set stays in it
closed-end : (t : Table) (closed : List Bool) → IsTable t → IsGoodNone t closed → (p : ℕ) (rest : List ℕ) →
    is_closed closed p ≡ true → StepsAreAllowed t p rest → is_closed closed (last_place p rest) ≡ true
closed-end t closed ok good p [] inside leads = inside
closed-end t closed ok good p (q ∷ rest) inside leads =
    let rises : p < q = Allowed-rises t ok good.sorted p q leads.0 in
    closed-end t closed ok good q rest (good.keeps p q rises leads.0 inside) leads.1

-- the table of a good certificate of no cut has no plan
pub no_plan_from_good : (t : Table) (closed : List Bool) → IsTable t → IsGoodNone t closed → HasNoPlan t
no_plan_from_good t closed ok good [] is_plan = is_plan
no_plan_from_good t closed ok good (p ∷ rest) is_plan =
    let P : ℕ → Type 0 = λ x. is_closed closed x ≡ true in
    let first : is_closed closed p ≡ true = subst P (sym is_plan.0) good.start in
    let last : is_closed closed (length t.places - 1) ≡ true =
    subst P is_plan.1 (closed-end t closed ok good p rest first is_plan.2) in
    let outside : is_closed closed (length t.places - 1) ≡ false = good.without_end in
    cc
