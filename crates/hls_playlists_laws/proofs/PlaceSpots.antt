-- A place's spots have the times of the units beside them.
use Rattle.std.proofs.Common.{◌≡◌, ℕ, zero, suc, ◌+◌, ◌-◌, ◌<◌, Bool, true, false, cond, List, [], ◌∷◌, length, Option, Some, None, arith, refl, sym, ap, subst, inl, inr, ◌∙◌, All, append-nil}
use Rattle.std.specs.Prelude.{nat_lt, nat_le, ◌&&◌, option_map}
use Rattle.std.specs.List.{filter_map, list_all}
use Rattle.std.proofs.lemmas.Bool.{cases_Bool, cond-true, cond-false}
use Rattle.hls_media_laws.specs.declared.facts.Facts.{Facts}
use Rattle.hls_check_tables.specs.declared.spot.Spot.{Spot}
use Rattle.hls_check_tables.specs.Tables.{spot_in}
use Rattle.hls_places_laws.specs.declared.place.Place.{Place}
use Rattle.hls_places_laws.specs.Sources.{Source, fact_at, first_facts, no_facts, source_at}
use Rattle.hls_places_laws.specs.Spots.{end_spot, first_entry, near_spot, prev_end, spot_at}
use Rattle.hls_places_laws.specs.Places.{closing_places, common_at, has_ended, place_of, places_of, spots, with_spot}
use Rattle.hls_places_laws.proofs.Callers.{all-snoc, closing_place, filter_map-all}

-- a spot has the start of its unit and the end of the unit before it, if there are these
pub record IsSpotOf (facts : List Facts) (spot : Spot) : Type 0 where
  pub start : spot.fragment < length facts → spot.start ≡ (fact_at facts spot.fragment).start_us
  pub end : 0 < spot.fragment → spot.prev_end ≡ (fact_at facts (spot.fragment - 1)).end_us

-- the end before unit k is the end of unit k - 1, if k is above 0
ends-before : (facts : List Facts) (k : ℕ) → 0 < k → prev_end facts k ≡ (fact_at facts (k - 1)).end_us
ends-before facts zero some = absurd (omega (arith, some))
ends-before facts (suc k) some =
    let same : k ≡ suc k - 1 = omega arith in
    ap (λ (n : ℕ). (fact_at facts n).end_us) same

-- the spot at a unit, and the one after the last unit, have the times of the units beside them
at-unit : (facts : List Facts) (k : ℕ) → IsSpotOf facts (spot_at facts k)
at-unit facts k = record { start = λ h. refl; end = λ some. ends-before facts k some }

at-end : (facts : List Facts) → IsSpotOf facts (end_spot facts)
at-end facts = record { start = λ h. absurd (omega (arith, h)); end = λ some. refl }

-- a spot at a unit that results from a test has the times of the units beside it
by-of : (facts : List Facts) (k : ℕ) (b : Bool) (spot : Spot) → cond b (Some (spot_at facts k)) None ≡ Some spot → IsSpotOf facts spot
by-of facts k true spot is =
    let same : spot_at facts k ≡ spot = cc in
    subst (IsSpotOf facts) same (at-unit facts k)
by-of facts k false spot is = absurd (cc)

-- a spot that is found near a time has the times of the units beside it
near-of : (s : Source) (t : ℕ) (spot : Spot) → near_spot s t ≡ Some spot → IsSpotOf s.facts spot
near-of s t spot is =
    let k : ℕ = first_entry (t - s.tolerance) s.facts in
    by-of s.facts k (nat_lt k (length s.facts) && nat_le (fact_at s.facts k).start_us (t + s.tolerance)) spot is

-- the spot of a place in each rendition has the times of the units beside it
abbrev pub AreSpotsOf : List Source → Place → Type 0
AreSpotsOf sources p = (r : ℕ) → r < length sources → IsSpotOf (source_at sources r).facts (spot_in p.spots r)

-- if a spot and others are all found, the spot is found and so are the others
with-parts : (o : Option Spot) (rest : Option (List Spot)) (found : List Spot) → with_spot o rest ≡ Some found →
    (spot : Spot) × (others : List Spot) × (o ≡ Some spot) × (rest ≡ Some others) × (spot ∷ others ≡ found)
with-parts None rest found is = absurd (cc)
with-parts (Some spot) None found is = absurd (cc)
with-parts (Some spot) (Some others) found is =
    let same : spot ∷ others ≡ found = cc in
    (spot, others, refl, refl, same)

-- the spots that are found near a time in all renditions have the times of the units beside them
spots-of : (sources : List Source) (t : ℕ) (found : List Spot) → spots sources t ≡ Some found → AreSpotsOf sources (place_of found)
spots-of [] t found is r h = absurd (omega (arith, h))
spots-of (s ∷ sources) t found is zero h =
    let parts = with-parts (near_spot s t) (spots sources t) found is in
    subst (λ (xs : List Spot). IsSpotOf s.facts (spot_in xs 0)) parts.4 (near-of s t parts.0 parts.2)
spots-of (s ∷ sources) t found is (suc r) h =
    let parts = with-parts (near_spot s t) (spots sources t) found is in
    subst (λ (xs : List Spot). IsSpotOf (source_at sources r).facts (spot_in xs (suc r))) parts.4
    (spots-of sources t parts.1 parts.3 r (omega (arith, h)))

-- a place that is made of spots found near a time has the times of the units beside its spots
mapped-of : (sources : List Source) (t : ℕ) (o : Option (List Spot)) (p : Place) → spots sources t ≡ o → option_map place_of o ≡ Some p → AreSpotsOf sources p
mapped-of sources t None p at is = absurd (cc)
mapped-of sources t (Some found) p at is =
    let same : place_of found ≡ p = cc in
    subst (AreSpotsOf sources) same (spots-of sources t found at)

-- a common place at a unit has the times of the units beside its spots
common-of : (sources : List Source) (f : Facts) (p : Place) → common_at sources f ≡ Some p → AreSpotsOf sources p
common-of sources f p is = elim (cases_Bool f.sync) [
  | inl sync ↦ mapped-of sources f.start_us (spots sources f.start_us) p refl (sym (cond-true f.sync _ _ sync) ∙ is)
  | inr not_sync ↦
      let none : None ≡ Some p = sym (cond-false f.sync _ _ not_sync) ∙ is in
      absurd (cc)
]

-- the closing place has the times of the units beside its spots
ends-of : (sources : List Source) → AreSpotsOf sources (closing_place sources)
ends-of [] r h = absurd (omega (arith, h))
ends-of (s ∷ sources) zero h = at-end s.facts
ends-of (s ∷ sources) (suc r) h = ends-of sources r (omega (arith, h))

-- each place of the sources has the times of the units beside its spots
pub places-of : (sources : List Source) → All (AreSpotsOf sources) (places_of sources)
places-of sources =
    let found : List Place = filter_map (common_at sources) (first_facts sources) in
    let each : All (AreSpotsOf sources) found =
    filter_map-all (common_at sources) (AreSpotsOf sources) no_facts (first_facts sources) (λ k p h is. common-of sources (fact_at (first_facts sources) k) p is) in
    elim (cases_Bool (list_all has_ended sources)) [
      | inl all ↦
          let closing : closing_places sources ≡ closing_place sources ∷ [] = cond-true (list_all has_ended sources) _ _ all in
          rw closing (all-snoc (AreSpotsOf sources) found (closing_place sources) each (ends-of sources))
      | inr not_all ↦
          let closing : closing_places sources ≡ [] = cond-false (list_all has_ended sources) _ _ not_all in
          rw (closing, append-nil found) each
    ]
