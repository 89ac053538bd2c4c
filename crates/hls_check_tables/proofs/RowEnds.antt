-- Over a table in order, the first place that is too far away, or after a gap, ends the allowed steps from a place.
use Rattle.std.proofs.Common.{◌≡◌, ℕ, zero, suc, ◌+◌, ◌-◌, ◌<◌, ◌≤◌, [], length, arith, add-zero, inl, inr, subst}
use Rattle.hls_time.specs.Times.{Fits}
use Rattle.hls_check_tables.specs.declared.spot.Spot.{Spot}
use Rattle.hls_check_tables.specs.Tables.{Table, IsTable, spot_in, place_at}
use Rattle.hls_check_tables.specs.Steps.{Allowed, length_between}
use Rattle.hls_check_tables.specs.Orders.{IsPastGap, IsRowEnd, IsOrderly}

-- a spot is at or after another: neither its previous unit's end nor its gap count is smaller
record IsLater (earlier later : Spot) : Type 0 where
  ends : earlier.prev_end ≤ later.prev_end
  runs : earlier.run_in ≤ later.run_in

-- in an ordered table neither ends nor gap counts decrease, over any distance
spot-never_falls : (t : Table) → IsOrderly t → (r : ℕ) → r < t.renditions → (q k : ℕ) →
    q + k < length t.places → IsLater (spot_in (place_at t.places q) r) (spot_in (place_at t.places (q + k)) r)
spot-never_falls t orderly r in_r q zero h = rw add-zero (record { ends = omega arith; runs = omega arith })
spot-never_falls t orderly r in_r q (suc k) h =
    let so_far = spot-never_falls t orderly r in_r q k (omega arith) in
    let next = orderly.rising (q + k) (omega arith) in
    let ends = next.ends r in_r in
    let runs = next.runs r in_r in
    let same : q + k + 1 ≡ q + suc k = omega arith in
    let P : ℕ → Type 0 = λ x. IsLater (spot_in (place_at t.places q) r) (spot_in (place_at t.places x) r) in
    subst P same (record { ends = omega (arith, so_far.ends, ends); runs = omega (arith, so_far.runs, runs) })

-- if place q is too far from place p in rendition 0, no step from p leads to q or a later place
none_past_length : (t : Table) → IsTable t → IsOrderly t → (p q : ℕ) →
    ¬ Fits (length_between (place_at t.places p) (place_at t.places q)) t.goal.target →
    (j : ℕ) → q ≤ j → Allowed t p j → ⊥
none_past_length t ok orderly p q far j after allowed =
    let same : q + (j - q) ≡ j = omega arith in
    let P : ℕ → Type 0 = λ x. IsLater (spot_in (place_at t.places q) 0) (spot_in (place_at t.places x) 0) in
    let later = subst P same (spot-never_falls t orderly 0 (omega (arith, ok.renditions)) q (j - q) (omega (arith, allowed.to))) in
    let fits = (allowed.step 0 (omega (arith, ok.renditions))).fits in
    far (omega (arith, later.ends, fits))

-- if a gap in some rendition lies between place p and place q, no step from p leads to q or a later place
none_past_gap : (t : Table) → IsTable t → IsOrderly t → (p q : ℕ) → p < length t.places →
    IsPastGap (place_at t.places p) (place_at t.places q) → (j : ℕ) → q ≤ j → Allowed t p j → ⊥
none_past_gap t ok orderly p q in_p gap j after allowed =
    let r : ℕ = gap.rendition in
    let count = (ok.places p [] in_p).count in
    let in_r : r < t.renditions = omega (arith, count, gap.in_range) in
    let same : q + (j - q) ≡ j = omega arith in
    let P : ℕ → Type 0 = λ x. IsLater (spot_in (place_at t.places q) r) (spot_in (place_at t.places x) r) in
    let later = subst P same (spot-never_falls t orderly r in_r q (j - q) (omega (arith, allowed.to))) in
    let unbroken = (allowed.step r in_r).unbroken in
    omega (arith, later.runs, gap.broken, unbroken)

-- no allowed step leads from a place to the end of its row or beyond
pub none_past_end : (t : Table) → IsTable t → IsOrderly t → (p q : ℕ) → p < length t.places → IsRowEnd t p q →
    (j : ℕ) → q ≤ j → Allowed t p j → ⊥
none_past_end t ok orderly p q in_p end =
    elim end [
      | inl far ↦ none_past_length t ok orderly p q far
      | inr gap ↦ none_past_gap t ok orderly p q in_p gap
    ]
