-- The places that steps from one place lead to are contiguous.
use Rattle.std.proofs.Common.{◌≡◌, ℕ, zero, suc, ◌+◌, ◌-◌, ◌*◌, ◌<◌, ◌≤◌, List, length, arith, add-zero, inl, inr, refl, subst}
use Rattle.std.proofs.lemmas.Bool.{cases_lt}
use Rattle.hls_check_tables.specs.declared.spot.Spot.{Spot}
use Rattle.hls_check_tables.specs.Tables.{Table, spot_in, place_at}
use Rattle.hls_check_tables.specs.Steps.{Allowed}
use Rattle.hls_check_tables.specs.Orders.{IsOrderly}
use Rattle.hls_plan.specs.Spans.{IsFirstStep, IsSpan}

-- what doesn't decrease from any place to the next doesn't decrease over any distance
never_falls : (f : List Spot → ℕ) (t : Table) →
    ((p : ℕ) → p + 1 < length t.places → f (place_at t.places p) ≤ f (place_at t.places (p + 1))) →
    (q k : ℕ) → q + k < length t.places → f (place_at t.places q) ≤ f (place_at t.places (q + k))
never_falls f t next q zero h = rw add-zero (omega arith)
never_falls f t next q (suc k) h =
    let so_far : f (place_at t.places q) ≤ f (place_at t.places (q + k)) = never_falls f t next q k (omega arith) in
    let more : f (place_at t.places (q + k)) ≤ f (place_at t.places (q + k + 1)) = next (q + k) (omega arith) in
    let same : q + k + 1 ≡ q + suc k = omega arith in
    let P : ℕ → Type 0 = λ x. f (place_at t.places q) ≤ f (place_at t.places x) in
    subst P same (omega (arith, so_far, more))

-- what doesn't decrease from any place to the next doesn't decrease from any place to a later one
never_falls_to : (f : List Spot → ℕ) (t : Table) →
    ((p : ℕ) → p + 1 < length t.places → f (place_at t.places p) ≤ f (place_at t.places (p + 1))) →
    (q j : ℕ) → q ≤ j → j < length t.places → f (place_at t.places q) ≤ f (place_at t.places j)
never_falls_to f t next q j up below =
    let same : q + (j - q) ≡ j = omega arith in
    let P : ℕ → Type 0 = λ x. f (place_at t.places q) ≤ f (place_at t.places x) in
    subst P same (never_falls f t next q (j - q) (omega arith))

-- between two places that steps lead to, a step leads to each place
pub allowed_between : (t : Table) → IsOrderly t → (p a b : ℕ) → Allowed t p a → Allowed t p b →
    (j : ℕ) → a ≤ j → j ≤ b → Allowed t p j
allowed_between t orderly p a b near far j up down =
    let last : b < length t.places = far.to in
    record {
      from = near.from;
      to = omega (arith, last);
      step = λ r in_r.
          let fragments : (spot_in (place_at t.places a) r).fragment ≤ (spot_in (place_at t.places j) r).fragment =
          never_falls_to (λ place. (spot_in place r).fragment) t
          (λ k h. ((orderly.sorted (k + 1) h).after k refl).keeps r in_r) a j up (omega (arith, last)) in
          let ends : (k : ℕ) → k + 1 < length t.places → (spot_in (place_at t.places k) r).prev_end ≤ (spot_in (place_at t.places (k + 1)) r).prev_end =
          λ k h. (orderly.rising k h).ends r in_r in
          let runs : (k : ℕ) → k + 1 < length t.places → (spot_in (place_at t.places k) r).run_in ≤ (spot_in (place_at t.places (k + 1)) r).run_in =
          λ k h. (orderly.rising k h).runs r in_r in
          let ends_up : (spot_in (place_at t.places a) r).prev_end ≤ (spot_in (place_at t.places j) r).prev_end =
          never_falls_to (λ place. (spot_in place r).prev_end) t ends a j up (omega (arith, last)) in
          let ends_down : (spot_in (place_at t.places j) r).prev_end ≤ (spot_in (place_at t.places b) r).prev_end =
          never_falls_to (λ place. (spot_in place r).prev_end) t ends j b down last in
          let runs_up : (spot_in (place_at t.places a) r).run_in ≤ (spot_in (place_at t.places j) r).run_in =
          never_falls_to (λ place. (spot_in place r).run_in) t runs a j up (omega (arith, last)) in
          let runs_down : (spot_in (place_at t.places j) r).run_in ≤ (spot_in (place_at t.places b) r).run_in =
          never_falls_to (λ place. (spot_in place r).run_in) t runs j b down last in
          let low = near.step r in_r in
          let high = far.step r in_r in
          let later : (spot_in (place_at t.places p) r).fragment < (spot_in (place_at t.places a) r).fragment = low.later in
          let same_low : (spot_in (place_at t.places p) r).run_out ≡ (spot_in (place_at t.places a) r).run_in = low.unbroken in
          let same_high : (spot_in (place_at t.places p) r).run_out ≡ (spot_in (place_at t.places b) r).run_in = high.unbroken in
          let forward : (spot_in (place_at t.places p) r).start < (spot_in (place_at t.places a) r).prev_end = low.forward in
          let fits : (spot_in (place_at t.places b) r).prev_end - (spot_in (place_at t.places p) r).start ≤ t.goal.target * 1000000 + 499999 = high.fits in
          record {
            later = omega (arith, later, fragments);
            unbroken = omega (arith, same_low, same_high, runs_up, runs_down);
            forward = omega (arith, forward, ends_up);
            fits = omega (arith, fits, ends_down);
          };
    }

-- if a step leads to place q and none to place m, which is after it, none leads to a place after m
pub none_from : (t : Table) → IsOrderly t → (p q m : ℕ) → Allowed t p q → q ≤ m → (Allowed t p m → ⊥) →
    (j : ℕ) → m ≤ j → Allowed t p j → ⊥
none_from t orderly p q m here up none j after there =
    none (allowed_between t orderly p q j here there m up after)

-- the first and the last place that steps lead to make a span
pub span_found : (t : Table) → IsOrderly t → (p first last : ℕ) → IsFirstStep t p first → Allowed t p last →
    first ≤ last → ((j : ℕ) → last < j → Allowed t p j → ⊥) → IsSpan t p first (last + 1)
span_found t orderly p first last is_first there up not_before =
    let to : last < length t.places = there.to in
    record {
      forward = is_first.forward;
      some = omega arith;
      within = omega (arith, to);
      each = λ j from below. allowed_between t orderly p first last is_first.allowed there j from (omega arith);
      others = λ j after allowed. (
        elim (cases_lt j first) [
          | inl below ↦ absurd (is_first.none_before j after below allowed)
          | inr from ↦ from
        ],
        elim (cases_lt last j) [
          | inl above ↦ absurd (not_before j above allowed)
          | inr within ↦ omega arith
        ],
      );
    }
