-- The kept places: their copies, the last one by a time, and the first one from a time.
use Rattle.std.proofs.Common.{◌≡◌, ℕ, zero, suc, ◌+◌, ◌-◌, ◌<◌, ◌≤◌, List, [], ◌∷◌, length, Some, None, true, false, arith, refl, sym, ap, subst, inl, inr, ◌∙◌, ◌++◌, take, drop, length-append, length-drop, append_assoc}
use Rattle.std.specs.Prelude.{nat_lt, nat_le, slice_get}
use Rattle.std.proofs.lemmas.Bool.{cases_Bool, cases_lt, cond-true, cond-false, lt-ltb, le-ltb, lt-leb, le-leb}
use Rattle.hls_check_tables.specs.declared.spot.Spot.{Spot}
use Rattle.hls_places_laws.specs.declared.place.Place.{Place}
use Rattle.hls_places_laws.specs.Order.{time_of, spots_of}
use Rattle.hls_places_laws.specs.Firsts.{first_after, first_from}
use Rattle.hls_places_laws.specs.Programmes.{is_kept, filter_kept}
use Rattle.hls_core_laws.specs.State.{State}
use Rattle.hls_core_laws.specs.Places.{places, floors}
use Rattle.hls_core_laws.specs.IsState.{IsState}
use Rattle.hls_core.specs.KeptPlaces.{IsLastKeptBy, NoKeptBy}
use Rattle.hls_catchup.specs.KeptPlaces.{PlacesAndFloors, places_and_floors_of, all_kept_places, kept_places_from, IsLastBy}
use Rattle.hls_catchup.proofs.Cited.{at_drop, kept-goes-on}

-- a place that is kept is the first of the kept ones before the others
pub kept-more : (floors : List ℕ) (p : Place) (ps : List Place) → is_kept floors p ≡ true → filter_kept floors (p ∷ ps) ≡ p ∷ filter_kept floors ps
kept-more floors p ps is = cond-true (is_kept floors p) (p ∷ filter_kept floors ps) (filter_kept floors ps) is

-- a place that isn't kept changes nothing of the kept ones
pub kept-same : (floors : List ℕ) (p : Place) (ps : List Place) → is_kept floors p ≡ false → filter_kept floors (p ∷ ps) ≡ filter_kept floors ps
kept-same floors p ps is = cond-false (is_kept floors p) (p ∷ filter_kept floors ps) (filter_kept floors ps) is

-- if all places are kept, all are among the kept ones
pub all-kept : (floors : List ℕ) (ps : List Place) → ((k : ℕ) (p : Place) → slice_get ps k ≡ Some p → is_kept floors p ≡ true) → filter_kept floors ps ≡ ps
all-kept floors [] kept = refl
all-kept floors (p ∷ ps) kept =
    kept-more floors p ps (kept 0 p refl) ∙ ap (λ (qs : List Place). p ∷ qs) (all-kept floors ps (λ k q at. kept (suc k) q at))

-- all places from a kept one on are kept
pub kept-from : (s : State) → IsState s → (time n : ℕ) → IsLastKeptBy s time n → kept_places_from (places_and_floors_of s) n ≡ drop n (places s)
kept-from s state time n found =
    all-kept (floors s) (drop n (places s))
    (λ k p at. kept-goes-on s state n (n + k) found.place p (omega arith) found.there (sym (at_drop (places s) n k) ∙ at) found.kept)

-- if the first place is after the time, it is the first one after it
pub after-here : (time : ℕ) (p : Place) (ps : List Place) → nat_lt time (time_of p) ≡ true → first_after time (p ∷ ps) ≡ 0
after-here time p ps late = rw late refl

-- if the first place isn't after the time, the first one after it is among the others
pub after-later : (time : ℕ) (p : Place) (ps : List Place) → nat_lt time (time_of p) ≡ false → first_after time (p ∷ ps) ≡ 1 + first_after time ps
after-later time p ps early = rw early refl

-- if the first place is at or after the time, it is the first one that is
from-here : (time : ℕ) (p : Place) (ps : List Place) → nat_le time (time_of p) ≡ true → first_from time (p ∷ ps) ≡ 0
from-here time p ps late = rw late refl

-- if the first place is before the time, the first one at or after it is among the others
pub from-later : (time : ℕ) (p : Place) (ps : List Place) → nat_le time (time_of p) ≡ false → first_from time (p ∷ ps) ≡ 1 + first_from time ps
from-later time p ps early = rw early refl

-- if no kept place is by a time, the first after it is the first of all
none-first : (floors : List ℕ) (time : ℕ) (ps : List Place) → ((k : ℕ) (p : Place) → slice_get ps k ≡ Some p → is_kept floors p ≡ true → time < time_of p) →
    first_after time (filter_kept floors ps) ≡ 0
none-first floors time [] each = refl
none-first floors time (p ∷ ps) each =
    let rest : first_after time (filter_kept floors ps) ≡ 0 = none-first floors time ps (λ k q at is. each (suc k) q at is) in
    elim (cases_Bool (is_kept floors p)) [
      | inl is ↦ ap (first_after time) (kept-more floors p ps is) ∙ after-here time p (filter_kept floors ps) (lt-ltb time (time_of p) (each 0 p refl is))
      | inr isnt ↦ ap (first_after time) (kept-same floors p ps isnt) ∙ rest
    ]

-- these places with these floors
abbrev of : List ℕ → List Place → PlacesAndFloors
of floors ps = record { items = ps; floors = floors }

-- if place m is the last kept one by a time, it still is, one number later, after another place that isn't kept
passed : (floors : List ℕ) (time : ℕ) (p : Place) (ps : List Place) (m : ℕ) → is_kept floors p ≡ false →
    IsLastBy (of floors ps) time m → IsLastBy (of floors (p ∷ ps)) time (suc m)
passed floors time p ps m isnt last =
    let same : filter_kept floors (p ∷ ps) ≡ filter_kept floors ps = kept-same floors p ps isnt in
    record {
      within = omega (arith, last.within);
      some = rw same last.some;
      rest = rw same last.rest;
    }

-- if place m is the last kept one by a time, it still is, one number later, after another kept place by the time
followed : (floors : List ℕ) (time : ℕ) (p : Place) (ps : List Place) (m : ℕ) → is_kept floors p ≡ true → nat_lt time (time_of p) ≡ false →
    IsLastBy (of floors ps) time m → IsLastBy (of floors (p ∷ ps)) time (suc m)
followed floors time p ps m is early last =
    let ks : List Place = filter_kept floors ps in
    let same : filter_kept floors (p ∷ ps) ≡ p ∷ ks = kept-more floors p ps is in
    let count : first_after time (p ∷ ks) ≡ 1 + first_after time ks = after-later time p ks early in
    let some : 1 ≤ first_after time ks = last.some in
    let before : first_after time (p ∷ ks) - 1 ≡ suc (first_after time ks - 1) = omega arith in
    record {
      within = omega (arith, last.within);
      some = rw same (omega arith);
      rest = rw (same, before) last.rest;
    }

-- a kept place by the time is the last one if no kept place after it is by the time
here : (floors : List ℕ) (time : ℕ) (p : Place) (ps : List Place) → is_kept floors p ≡ true → nat_lt time (time_of p) ≡ false →
    first_after time (filter_kept floors ps) ≡ 0 → IsLastBy (of floors (p ∷ ps)) time 0
here floors time p ps is early none =
    let ks : List Place = filter_kept floors ps in
    let same : filter_kept floors (p ∷ ps) ≡ p ∷ ks = kept-more floors p ps is in
    let count : first_after time (p ∷ ks) ≡ 1 + first_after time ks = after-later time p ks early in
    let before : first_after time (p ∷ ks) - 1 ≡ 0 = omega arith in
    record {
      within = omega arith;
      some = rw same (omega arith);
      rest = rw (same, before) refl;
    }

-- equal options have equal places
some-is : (x y : Place) → Some x ≡ Some y → x ≡ y
some-is x y is = cc

-- None is no place
none-there : (x : Place) → None ≡ Some x → ⊥
none-there x is = cc

-- a kept place is the last one by a time if all places up to it are by the time and all after it are later
last-at : (floors : List ℕ) (time m : ℕ) (ps : List Place) (place : Place) → slice_get ps m ≡ Some place → is_kept floors place ≡ true →
    ((k : ℕ) (p : Place) → k < m + 1 → slice_get ps k ≡ Some p → time_of p ≤ time) →
    ((k : ℕ) (p : Place) → m + 1 ≤ k → slice_get ps k ≡ Some p → time < time_of p) → IsLastBy (of floors ps) time m
last-at floors time m [] place at is early late = absurd (none-there place at)
last-at floors time zero (p ∷ ps) place at is early late =
    let kept_here : is_kept floors p ≡ true = subst (λ (x : Place). is_kept floors x ≡ true) (sym (some-is p place at)) is in
    here floors time p ps kept_here (le-ltb time (time_of p) (early 0 p (omega arith) refl))
    (none-first floors time ps (λ k q at_q is_q. late (suc k) q (omega arith) at_q))
last-at floors time (suc m) (p ∷ ps) place at is early late =
    let rest : IsLastBy (of floors ps) time m =
    last-at floors time m ps place at is (λ k q less at_q. early (suc k) q (omega (arith, less)) at_q) (λ k q more at_q. late (suc k) q (omega (arith, more)) at_q) in
    elim (cases_Bool (is_kept floors p)) [
      | inl kept_here ↦ followed floors time p ps m kept_here (le-ltb time (time_of p) (early 0 p (omega arith) refl)) rest
      | inr isnt ↦ passed floors time p ps m isnt rest
    ]

-- the place that the search found is the last kept one by the time
pub last-is : (s : State) (time n : ℕ) → IsLastKeptBy s time n → IsLastBy (places_and_floors_of s) time n
last-is s time n found = last-at (floors s) time n (places s) found.place found.there found.kept found.by.early found.by.late

-- if no kept place is by a time, the first one after the time is the first of all
pub none-is : (s : State) (time : ℕ) → NoKeptBy s time → first_after time (all_kept_places (places_and_floors_of s)) ≡ 0
none-is s time none = none-first (floors s) time (places s) none

-- among places that are all kept, the first at or after a stop is the one after the last before it
first-is : (floors : List ℕ) (stop m : ℕ) (ps : List Place) → ((k : ℕ) (p : Place) → slice_get ps k ≡ Some p → is_kept floors p ≡ true) →
    ((k : ℕ) (p : Place) → k < m → slice_get ps k ≡ Some p → time_of p < stop) → ((k : ℕ) (p : Place) → m ≤ k → slice_get ps k ≡ Some p → stop ≤ time_of p) →
    m ≤ length ps → (first_from stop (filter_kept floors ps) ≡ m) × (length (filter_kept floors ps) ≡ length ps)
first-is floors stop zero [] kept early late few = (refl, refl)
first-is floors stop (suc m) [] kept early late few = absurd (omega (arith, few))
first-is floors stop zero (p ∷ ps) kept early late few =
    let more : filter_kept floors (p ∷ ps) ≡ p ∷ filter_kept floors ps = kept-more floors p ps (kept 0 p refl) in
    let rest = first-is floors stop 0 ps (λ k q at. kept (suc k) q at) (λ k q less at. absurd (omega (arith, less))) (λ k q past at. late (suc k) q (omega arith) at) (omega arith) in (
      ap (first_from stop) more ∙ from-here stop p (filter_kept floors ps) (le-leb stop (time_of p) (late 0 p (omega arith) refl)),
      omega (arith, ap length more, rest.1),
    )
first-is floors stop (suc m) (p ∷ ps) kept early late few =
    let more : filter_kept floors (p ∷ ps) ≡ p ∷ filter_kept floors ps = kept-more floors p ps (kept 0 p refl) in
    let rest = first-is floors stop m ps (λ k q at. kept (suc k) q at) (λ k q less at. early (suc k) q (omega (arith, less)) at)
    (λ k q past at. late (suc k) q (omega (arith, past)) at) (omega (arith, few)) in (
      omega (arith, ap (first_from stop) more, from-later stop p (filter_kept floors ps) (lt-leb stop (time_of p) (early 0 p (omega arith) refl)), rest.0),
      omega (arith, ap length more, rest.1),
    )

-- what two searches tell about the places from number `from`, the last one by the start, if number `before` is the last one before the stop
pub record AreSearched (s : State) (stop from before : ℕ) : Type 0 where
  pub order : from ≤ before
  pub few : before + 1 ≤ length (places s)
  pub first : first_from stop (kept_places_from (places_and_floors_of s) from) ≡ before + 1 - from
  pub long : length (kept_places_from (places_and_floors_of s) from) ≡ length (places s) - from

-- if `from` is the last kept place by the start and `before` the last one before the stop, the first kept place at or after
-- the stop is the one after `before`, if there is one
pub are-searched : (s : State) → IsState s → (start stop from before : ℕ) → start < stop → IsLastKeptBy s start from → IsLastKeptBy s (stop - 1) before →
    AreSearched s stop from before
are-searched s state start stop from before order begins ends =
    let by : time_of begins.place ≤ start = begins.by.early from begins.place (omega arith) begins.there in
    let up : from ≤ before = elim (cases_lt before from) [
      | inl less ↦ absurd (omega (arith, order, by, ends.by.late from begins.place (omega (arith, less)) begins.there))
      | inr more ↦ more
    ] in
    let few : before + 1 ≤ length (places s) = ends.by.few in
    let rest : length (drop from (places s)) ≡ length (places s) - from = length-drop from (places s) in
    let found = first-is (floors s) stop (before + 1 - from) (drop from (places s))
    (λ k p at. kept-goes-on s state from (from + k) begins.place p (omega arith) begins.there (sym (at_drop (places s) from k) ∙ at) begins.kept)
    (λ k p less at. omega (arith, order, ends.by.early (from + k) p (omega (arith, less, up)) (sym (at_drop (places s) from k) ∙ at)))
    (λ k p past at. omega (arith, order, ends.by.late (from + k) p (omega (arith, past, up)) (sym (at_drop (places s) from k) ∙ at)))
    (omega (arith, few, rest, up)) in
    record {
      order = up;
      few = few;
      first = found.0;
      long = found.1 ∙ rest;
    }

-- if one more kept place is copied, the copies and those still to come are the same as before
pub one_copy_more : (spots : List (List Spot)) (copy : List Spot) (count : ℕ) (floors : List ℕ) (p : Place) (ps : List Place) (whole : List (List Spot)) →
    length spots < count → is_kept floors p ≡ true → copy ≡ p.spots →
    spots ++ spots_of (take (count - length spots) (filter_kept floors (p ∷ ps))) ≡ whole →
    (spots ++ copy ∷ []) ++ spots_of (take (count - length (spots ++ copy ∷ [])) (filter_kept floors ps)) ≡ whole
one_copy_more spots copy count floors p ps whole room is same before =
    let rest : ℕ = count - length (spots ++ copy ∷ []) in
    let long : length (spots ++ copy ∷ []) ≡ length spots + 1 = length-append spots (copy ∷ []) in
    let more : count - length spots ≡ suc rest = omega arith in
    let taken : take (count - length spots) (filter_kept floors (p ∷ ps)) ≡ p ∷ take rest (filter_kept floors ps) = rw (kept-more floors p ps is, more) refl in
    append_assoc spots (copy ∷ []) (spots_of (take rest (filter_kept floors ps)))
    ∙ ap (λ (c : List Spot). spots ++ c ∷ spots_of (take rest (filter_kept floors ps))) same
    ∙ ap (λ (qs : List Place). spots ++ spots_of qs) (sym taken) ∙ before
