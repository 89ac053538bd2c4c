-- A plan is traced back from the last place, from each place to the one that it was reached from.
use Rattle.std.proofs.Common.{◌≡◌, ℕ, ◌+◌, ◌-◌, List, [], ◌∷◌, ◌++◌, length, reverse, is_some, true, Option, Some, None, arith, refl, sym, ap, ◌∙◌, subst}
use Rattle.std.proofs.lemmas.List.{reverse-append}
use Rattle.hls_check_tables.specs.Tables.{Table}
use Rattle.hls_check_tables.specs.Steps.{cost}
use Rattle.hls_check_tables.specs.Plans.{cost_from, IsPlan, plan_cost}
use Rattle.hls_check_tables.specs.Certificates.{price_at}
use Rattle.hls_plan.specs.Pricing.{IsReached, IsPathBack}

-- the last place alone is a path, if it has a price
way_alone : (t : Table) (prices : List (Option ℕ)) (at : ℕ) (path : List ℕ) (last : Option ℕ) →
    at ≡ length t.places - 1 → path ≡ [] → price_at prices at ≡ last → is_some last ≡ true →
    IsPathBack t prices at (path ++ at ∷ [])
way_alone t prices at path None is_last none priced some = cc
way_alone t prices at path (Some total) is_last none priced some =
    let paid : price_at prices (length t.places - 1) ≡ Some (total + 0) =
    ap (price_at prices) (sym is_last) ∙ priced ∙ ap (λ (x : ℕ). Some x) (omega arith) in
    record {
      rest = [];
      is = ap (λ (xs : List ℕ). reverse (xs ++ at ∷ [])) none;
      steps_allowed = tt;
      ends = is_last;
      price = total;
      priced = priced;
      paid = paid;
    }

-- if the last place has a price, it is a path back by itself
pub way_start : (t : Table) (prices : List (Option ℕ)) (at : ℕ) (path : List ℕ) → at ≡ length t.places - 1 → path ≡ [] →
    is_some (price_at prices (length t.places - 1)) ≡ true → IsPathBack t prices at (path ++ at ∷ [])
way_start t prices at path is_last none some =
    way_alone t prices at path (price_at prices at) is_last none refl (ap (λ (x : ℕ). is_some (price_at prices x)) is_last ∙ some)

-- a path back from a place is continued to the place that it was reached from
pub way_more : (t : Table) (prices : List (Option ℕ)) (at origin : ℕ) (path : List ℕ) (back : IsPathBack t prices at path) →
    IsReached t prices at back.price origin → IsPathBack t prices origin (path ++ origin ∷ [])
way_more t prices at origin path back reached =
    let sum : back.price + cost_from t at back.rest ≡ reached.before + (cost t origin at + cost_from t at back.rest) =
    omega (arith, reached.sum) in
    record {
      rest = at ∷ back.rest;
      is = reverse-append path (origin ∷ []) ∙ ap (λ (xs : List ℕ). origin ∷ xs) back.is;
      steps_allowed = (reached.allowed, back.steps_allowed);
      ends = back.ends;
      price = reached.before;
      priced = reached.priced;
      paid = back.paid ∙ ap (λ (x : ℕ). Some x) sum;
    }

-- at the first place the path is a plan, and the last place's price is its cost
pub plan_from_way : (t : Table) (prices : List (Option ℕ)) (at : ℕ) (path : List ℕ) → at ≡ 0 → price_at prices 0 ≡ Some 0 →
    IsPathBack t prices at path →
    IsPlan t (reverse path) × (price_at prices (length t.places - 1) ≡ Some (plan_cost t (reverse path)))
plan_from_way t prices at path is_first start back =
    let first : price_at prices at ≡ Some 0 = ap (price_at prices) is_first ∙ start in
    let priced : price_at prices at ≡ Some back.price = back.priced in
    let free : back.price ≡ 0 = cc in
    let P : List ℕ → Type 0 = λ xs.
    IsPlan t xs × (price_at prices (length t.places - 1) ≡ Some (plan_cost t xs)) in
    let whole : P (at ∷ back.rest) = (
      (is_first, back.ends, back.steps_allowed),
      back.paid ∙ ap (λ (x : ℕ). Some x) (omega (arith, free)),
    ) in
    subst P (sym back.is) whole
