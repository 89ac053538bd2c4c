-- How the prices change as a row is examined, place by place.
use Rattle.std.proofs.Common.{◌≡◌, ◌≢◌, ℕ, zero, suc, replicate, ◌+◌, ◌*◌, ◌<◌, ◌≤◌, List, length, set, get_or, cond, Option, Some, None, Bool, true, false, arith, refl, sym, ap, ◌∙◌, inl, inr, below_more, get_or-set_other, get_or-set_same, length-set}
use Rattle.std.proofs.lemmas.Bool.{cases_eq, cases_lt, ltb-true, ltb-false}
use Rattle.std.proofs.lemmas.List.{length-replicate}
use Rattle.hls_check_tables.specs.Tables.{Table, IsTable}
use Rattle.hls_check_tables.specs.Steps.{Allowed, cost, cost_limit}
use Rattle.hls_check_tables.specs.Certificates.{price_at, KeepsPrice, CutKeepsPrices}
use Rattle.hls_plan.specs.Pricing.{is_lower_price, IsPricing}

-- a lower price respects every step that the one before respected
Keeps-lower : (step : ℕ) (from : Option ℕ) (price : ℕ) (found : Option ℕ) → is_lower_price price found ≡ true →
    KeepsPrice step from found → KeepsPrice step from (Some price)
Keeps-lower step None price found lower keeps = tt
Keeps-lower step (Some x) price None lower keeps = absurd keeps
Keeps-lower step (Some x) price (Some y) lower keeps = omega (arith, ltb-true price y lower, keeps)

-- if the price that a step offers isn't lower, the step respects the price found
Keeps-found : (step a price : ℕ) (found : Option ℕ) → price ≡ a + step → is_lower_price price found ≡ false →
    KeepsPrice step (Some a) found
Keeps-found step a price None sum lower = cc
Keeps-found step a price (Some y) sum lower = omega (arith, ltb-false price y lower, sum)

-- place q is done if the step to it respects the prices
pub row_passed : (t : Table) (p q : ℕ) (prices : List (Option ℕ)) (origins : List ℕ) →
    IsPricing t p q prices origins → CutKeepsPrices t prices p q → IsPricing t p (q + 1) prices origins
row_passed t p q prices origins pricing keeps = record {
  one_each = pricing.one_each;
  origin_each = pricing.origin_each;
  start = pricing.start;
  reached = pricing.reached;
  origin_done = pricing.origin_done;
  bound = pricing.bound;
  rows = pricing.rows;
  row = below_more (CutKeepsPrices t prices p) q pricing.row keeps;
}

-- the places before the first that a step leads to are done
pub row_skipped : (t : Table) (p first : ℕ) (prices : List (Option ℕ)) (origins : List ℕ) →
    IsPricing t p 0 prices origins → ((j : ℕ) → p < j → Allowed t p j → first ≤ j) → IsPricing t p first prices origins
row_skipped t p first prices origins pricing from = record {
  one_each = pricing.one_each;
  origin_each = pricing.origin_each;
  start = pricing.start;
  reached = pricing.reached;
  origin_done = pricing.origin_done;
  bound = pricing.bound;
  rows = pricing.rows;
  row = λ j below rises allowed. let up : first ≤ j = from j rises allowed in absurd (omega arith);
}

-- a row is complete if the steps from it to the places from q respect the prices
row_over : (t : Table) (p q : ℕ) (prices : List (Option ℕ)) (origins : List ℕ) →
    IsPricing t p q prices origins → ((j : ℕ) → q ≤ j → CutKeepsPrices t prices p j) → IsPricing t (p + 1) 0 prices origins
row_over t p q prices origins pricing keep = record {
  one_each = pricing.one_each;
  origin_each = pricing.origin_each;
  start = pricing.start;
  reached = pricing.reached;
  origin_done = λ k price h is. omega (arith, pricing.origin_done k price h is);
  bound = pricing.bound;
  rows = λ i j below.
      below_more (λ x. CutKeepsPrices t prices x j) p (λ x h. pricing.rows x j h)
      (elim (cases_lt j q) [
        | inl before ↦ pricing.row j before
        | inr after ↦ keep j after
      ])
      i below;
  row = λ j below. absurd (omega arith);
}

-- a row is complete if no step from its place leads to place q or a later one
pub row_end : (t : Table) (p q : ℕ) (prices : List (Option ℕ)) (origins : List ℕ) →
    IsPricing t p q prices origins → ((j : ℕ) → p < j → q ≤ j → Allowed t p j → ⊥) → IsPricing t (p + 1) 0 prices origins
row_end t p q prices origins pricing none =
    row_over t p q prices origins pricing (λ j after rises allowed. absurd (none j rises after allowed))

-- a row is complete if its place has no price
pub row_unpriced : (t : Table) (p : ℕ) (prices : List (Option ℕ)) (origins : List ℕ) →
    IsPricing t p 0 prices origins → price_at prices p ≡ None → IsPricing t (p + 1) 0 prices origins
row_unpriced t p prices origins pricing unpriced =
    row_over t p 0 prices origins pricing (λ j from rises allowed. rw unpriced tt)

-- place q is done after it got a lower price, that of place p plus the step
row_taken : (t : Table) (p q a : ℕ) (prices : List (Option ℕ)) (origins : List ℕ) →
    IsPricing t p q prices origins → price_at prices p ≡ Some a → p < q → Allowed t p q →
    cost t p q ≤ cost_limit → is_lower_price (a + cost t p q) (price_at prices q) ≡ true →
    IsPricing t p (q + 1) (set prices q (Some (a + cost t p q))) (set origins q p)
row_taken t p q a prices origins pricing priced rises allowed small lower =
    let price : ℕ = a + cost t p q in
    let new : List (Option ℕ) = set prices q (Some price) in
    let new_origins : List ℕ = set origins q p in
    let in_prices : q < length prices = omega (arith, allowed.to, pricing.one_each) in
    let in_origins : q < length origins = omega (arith, allowed.to, pricing.origin_each) in
    let here : price_at new q ≡ Some price = get_or-set_same prices q (Some price) None in_prices in
    let other : (k : ℕ) → k ≢ q → price_at new k ≡ price_at prices k =
    λ k ne. get_or-set_other prices q k (Some price) None ne in
    let here_origin : get_or new_origins q 0 ≡ p = get_or-set_same origins q p 0 in_origins in
    let other_origin : (k : ℕ) → k ≢ q → get_or new_origins k 0 ≡ get_or origins k 0 =
    λ k ne. get_or-set_other origins q k p 0 ne in
    let bounded : a ≤ p * cost_limit = pricing.bound p a priced in
    let kept : (i j : ℕ) → i < q → CutKeepsPrices t prices i j → CutKeepsPrices t new i j =
    λ i j before keeps up step.
    elim (cases_eq j q) [
      | inl same ↦
          rw (same, here, other i (omega arith))
          (Keeps-lower (cost t i q) (price_at prices i) price (price_at prices q) lower (rw same at (keeps up step)))
      | inr ne ↦ rw (other j ne, other i (omega arith)) (keeps up step)
    ] in
    record {
      one_each = length-set prices q (Some price) ∙ pricing.one_each;
      origin_each = length-set origins q p ∙ pricing.origin_each;
      start = other 0 (omega arith) ∙ pricing.start;
      reached = λ k v h is.
          elim (cases_eq k q) [
            | inl same ↦
                let is_q : price_at new q ≡ Some v = rw same at is in
                let sum : v ≡ a + cost t p q = cc in
                rw (same, here_origin) (record {
                  earlier = rises;
                  allowed = allowed;
                  before = a;
                  priced = other p (omega arith) ∙ priced;
                  sum = sum;
                })
            | inr ne ↦
                let old : price_at prices k ≡ Some v = sym (other k ne) ∙ is in
                let was = pricing.reached k v h old in
                let done : get_or origins k 0 ≤ p = pricing.origin_done k v h old in
                rw (other_origin k ne) (record {
                  earlier = was.earlier;
                  allowed = was.allowed;
                  before = was.before;
                  priced = other (get_or origins k 0) (omega arith) ∙ was.priced;
                  sum = was.sum;
                })
          ];
      origin_done = λ k v h is.
          elim (cases_eq k q) [
            | inl same ↦ rw (same, here_origin) (omega arith)
            | inr ne ↦
                let old : price_at prices k ≡ Some v = sym (other k ne) ∙ is in
                rw (other_origin k ne) (pricing.origin_done k v h old)
          ];
      bound = λ k v is.
          elim (cases_eq k q) [
            | inl same ↦
                let is_q : price_at new q ≡ Some v = rw same at is in
                let sum : v ≡ a + cost t p q = cc in
                omega arith
            | inr ne ↦ pricing.bound k v (sym (other k ne) ∙ is)
          ];
      rows = λ i j before. kept i j (omega arith) (pricing.rows i j before);
      row = below_more (CutKeepsPrices t new p) q
          (λ j before. kept p j rises (pricing.row j before))
          (λ up step. rw (here, other p (omega arith), priced) (omega arith));
    }

-- place q is done after an offer, whether the price was lower or not
row_offered_at : (t : Table) (p q a price : ℕ) (prices : List (Option ℕ)) (origins : List ℕ) (b : Bool) →
    IsPricing t p q prices origins → price_at prices p ≡ Some a → p < q → Allowed t p q →
    price ≡ a + cost t p q → cost t p q ≤ cost_limit → is_lower_price price (price_at prices q) ≡ b →
    IsPricing t p (q + 1) (cond b (set prices q (Some price)) prices) (cond b (set origins q p) origins) ×
    (price_at (cond b (set prices q (Some price)) prices) p ≡ Some a)
row_offered_at t p q a price prices origins true pricing priced rises allowed sum small lower = (
  rw sum (row_taken t p q a prices origins pricing priced rises allowed small (rw sum at lower)),
  get_or-set_other prices q p (Some price) None (omega arith) ∙ priced,
)
row_offered_at t p q a price prices origins false pricing priced rises allowed sum small lower = (
  row_passed t p q prices origins pricing
      (λ up step. rw priced (Keeps-found (cost t p q) a price (price_at prices q) sum lower)),
  priced,
)

-- place q is done after it was offered the price of place p plus the step, and place p keeps its price
pub row_offered : (t : Table) (p q a price : ℕ) (prices : List (Option ℕ)) (origins : List ℕ) →
    IsPricing t p q prices origins → price_at prices p ≡ Some a → p < q → Allowed t p q →
    price ≡ a + cost t p q → cost t p q ≤ cost_limit →
    IsPricing t p (q + 1)
    (cond (is_lower_price price (price_at prices q)) (set prices q (Some price)) prices)
    (cond (is_lower_price price (price_at prices q)) (set origins q p) origins) ×
    (price_at (cond (is_lower_price price (price_at prices q)) (set prices q (Some price)) prices) p ≡ Some a)
row_offered t p q a price prices origins pricing priced rises allowed sum small =
    row_offered_at t p q a price prices origins (is_lower_price price (price_at prices q)) pricing priced rises allowed
    sum small refl

-- a list filled with None has no price
unpriced_at : (n k : ℕ) → price_at (replicate n None) k ≡ None
unpriced_at zero k = refl
unpriced_at (suc n) zero = refl
unpriced_at (suc n) (suc k) = unpriced_at n k

-- before the first row, a price of 0 for the first place and none for the others are sound
pub pricing_start : (t : Table) (none : List (Option ℕ)) (origins : List ℕ) → IsTable t →
    none ≡ replicate (length t.places) None → length origins ≡ length t.places →
    IsPricing t 0 0 (set none 0 (Some 0)) origins
pricing_start t none origins ok is counts =
    let n : ℕ = length t.places in
    let count : length none ≡ n = ap length is ∙ length-replicate n None in
    let here : price_at (set none 0 (Some 0)) 0 ≡ Some 0 =
    get_or-set_same none 0 (Some 0) None (omega (arith, ok.count)) in
    let other : (k : ℕ) → k ≢ 0 → price_at (set none 0 (Some 0)) k ≡ None =
    λ k ne. get_or-set_other none 0 k (Some 0) None ne ∙ rw is (unpriced_at n k) in
    let not_priced : (k v : ℕ) → 0 < k → price_at (set none 0 (Some 0)) k ≡ Some v → ⊥ =
    λ k v h is_some. let is_none : price_at (set none 0 (Some 0)) k ≡ None = other k (omega arith) in cc in
    record {
      one_each = length-set none 0 (Some 0) ∙ count;
      origin_each = counts;
      start = here;
      reached = λ k v h is_some. absurd (not_priced k v h is_some);
      origin_done = λ k v h is_some. absurd (not_priced k v h is_some);
      bound = λ k v is_some.
          elim (cases_eq k 0) [
            | inl same ↦
                let is_first : price_at (set none 0 (Some 0)) 0 ≡ Some v = rw same at is_some in
                let free : v ≡ 0 = cc in
                omega arith
            | inr ne ↦ absurd (not_priced k v (omega arith) is_some)
          ];
      rows = λ i j below. absurd (omega arith);
      row = λ j below. absurd (omega arith);
    }
