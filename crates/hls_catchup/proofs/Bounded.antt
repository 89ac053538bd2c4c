-- In every common place, each rendition's fragment is an accepted one, or the end of all.
use Rattle.std.proofs.Common.{◌≡◌, ℕ, ◌+◌, ◌-◌, ◌<◌, ◌≤◌, List, [], ◌∷◌, ◌++◌, length, map, get_or, Option, Some, None, Bool, true, false, cond, arith, refl, sym, ap, subst, inl, inr, ◌∙◌}
use Rattle.std.specs.Prelude.{option_map, All, ⊤, nat_lt, nat_le, ◌&&◌}
use Rattle.std.specs.List.{filter_map, list_all}
use Rattle.std.proofs.lemmas.Bool.{cases_Bool, cond-true, cond-false, and_parts, ltb-true}
use Rattle.std.proofs.lemmas.List.{append-nil}
use Rattle.std.proofs.lemmas.Option.{same_Some}
use Rattle.hls_media_laws.specs.declared.facts.Facts.{Facts}
use Rattle.hls_check_tables.specs.declared.spot.Spot.{Spot}
use Rattle.hls_places_laws.specs.declared.place.Place.{Place}
use Rattle.hls_places_laws.specs.Sources.{Source, first_facts, fact_at, no_facts}
use Rattle.hls_places_laws.specs.Spots.{near_spot, spot_at, first_entry}
use Rattle.hls_places_laws.specs.Places.{spots, with_spot, place_of, common_at, has_ended, source_end_spot, closing_places, places_of}
use Rattle.hls_catchup.proofs.Cited.{filter_map-all, all-snoc}

-- spots paired with the renditions, none past the end of the last fragment
abbrev pub Bounded : List Source → List Spot → Type 0
Bounded [] [] = ⊤
Bounded [] (spot ∷ others) = ⊥
Bounded (s ∷ sources) [] = ⊥
Bounded (s ∷ sources) (spot ∷ others) = (spot.fragment ≤ length s.facts) × Bounded sources others

-- a conditional that yields something yields what its condition guards
taken_true : {A : Type 0} (b : Bool) (x y : A) → cond b (Some x) None ≡ Some y → (b ≡ true) × (x ≡ y)
taken_true true x y is = (refl, same_Some x y is)
taken_true false x y is = cc

-- what is below is within (a separate lemma of numbers, since omega searches everything in its context)
below_is : (k m n : ℕ) → k < n → k ≡ m → m ≤ n
below_is k m n below same = omega arith

-- a number is at most itself
all_of : (n : ℕ) → n ≤ n
all_of n = omega arith

-- a rendition's spot for a time is at one of its fragments
near-bounded : (s : Source) (t : ℕ) (spot : Spot) → near_spot s t ≡ Some spot → spot.fragment ≤ length s.facts
near-bounded s t spot is =
    let k : ℕ = first_entry (t - s.tolerance) s.facts in
    let parts = taken_true (nat_lt k (length s.facts) && nat_le (fact_at s.facts k).start_us (t + s.tolerance)) (spot_at s.facts k) spot is in
    let below : k < length s.facts =
    ltb-true k (length s.facts) (and_parts (nat_lt k (length s.facts)) (nat_le (fact_at s.facts k).start_us (t + s.tolerance)) parts.0).0 in
    below_is k spot.fragment (length s.facts) below (ap (λ (x : Spot). x.fragment) parts.1)

-- if the first rendition's spot and the spots of the others are bounded, all of them are
both_there : (s : Source) (sources : List Source) (o : Option Spot) (rest : Option (List Spot)) (found : List Spot) → with_spot o rest ≡ Some found →
    ((spot : Spot) → o ≡ Some spot → spot.fragment ≤ length s.facts) → ((others : List Spot) → rest ≡ Some others → Bounded sources others) →
    Bounded (s ∷ sources) found
both_there s sources None rest found is first others = cc
both_there s sources (Some spot) None found is first others = cc
both_there s sources (Some spot) (Some more) found is first others =
    subst (Bounded (s ∷ sources)) (same_Some (spot ∷ more) found is) (first spot refl, others more refl)

-- the spots of all renditions for a time are bounded
spots-bounded : (sources : List Source) (t : ℕ) (found : List Spot) → spots sources t ≡ Some found → Bounded sources found
spots-bounded [] t found is = subst (Bounded []) (same_Some [] found is) tt
spots-bounded (s ∷ sources) t found is =
    both_there s sources (near_spot s t) (spots sources t) found is (near-bounded s t) (spots-bounded sources t)

-- the spots after all fragments are bounded
ends-bounded : (sources : List Source) → Bounded sources (map source_end_spot sources)
ends-bounded [] = tt
ends-bounded (s ∷ sources) = (all_of (length s.facts), ends-bounded sources)

-- a place that is made of spots is bounded if they are
mapped : (sources : List Source) (o : Option (List Spot)) (p : Place) → option_map place_of o ≡ Some p →
    ((found : List Spot) → o ≡ Some found → Bounded sources found) → Bounded sources p.spots
mapped sources None p is each = cc
mapped sources (Some found) p is each =
    subst (λ (x : Place). Bounded sources x.spots) (same_Some (place_of found) p is) (each found refl)

-- None is no place
not_some : (p : Place) → None ≡ Some p → ⊥
not_some p is = cc

-- the common place at a fragment is bounded
place-bounded : (sources : List Source) (f : Facts) (p : Place) → common_at sources f ≡ Some p → Bounded sources p.spots
place-bounded sources f p is =
    elim (cases_Bool f.sync) [
      | inl sync ↦
          (let some : option_map place_of (spots sources f.start_us) ≡ Some p = sym (cond-true f.sync _ _ sync) ∙ is in
          mapped sources (spots sources f.start_us) p some (spots-bounded sources f.start_us))
      | inr not_sync ↦
          absurd (not_some p (sym (cond-false f.sync _ _ not_sync) ∙ is))
    ]

-- in every common place, each spot is at a fragment of its rendition or at the end of all
pub places-bounded : (sources : List Source) → All (λ (p : Place). Bounded sources p.spots) (places_of sources)
places-bounded sources =
    let P : Place → Type 0 = λ p. Bounded sources p.spots in
    let fs : List Facts = first_facts sources in
    let found : All P (filter_map (common_at sources) fs) =
    filter_map-all (common_at sources) P no_facts fs (λ k p h at. place-bounded sources (get_or fs k no_facts) p at) in
    elim (cases_Bool (list_all has_ended sources)) [
      | inl over ↦
          (let closing : closing_places sources ≡ (record { spots = map source_end_spot sources; closing = true }) ∷ [] = cond-true (list_all has_ended sources) _ _ over in
          subst (λ (ps : List Place). All P (filter_map (common_at sources) fs ++ ps)) (sym closing)
          (all-snoc P (filter_map (common_at sources) fs) (record { spots = map source_end_spot sources; closing = true }) found (ends-bounded sources)))
      | inr going ↦
          (let closing : closing_places sources ≡ [] = cond-false (list_all has_ended sources) _ _ going in
          subst (λ (ps : List Place). All P (filter_map (common_at sources) fs ++ ps)) (sym closing)
          (subst (All P) (sym (append-nil (filter_map (common_at sources) fs))) found))
    ]
