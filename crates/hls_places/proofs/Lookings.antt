-- The result of examining one fragment of rendition 0.
use Rattle.std.proofs.Common.{◌≡◌, ℕ, ◌+◌, ◌-◌, ◌<◌, List, [], ◌∷◌, ◌++◌, length, Some, None, true, arith, refl, sym, ap, subst, inl, inr, ◌∙◌}
use Rattle.std.proofs.lemmas.List.{append-nil}
use Rattle.std.specs.Prelude.{option_map}
use Rattle.std.proofs.lemmas.Bool.{cases_lt, cond-true}
use Rattle.hls_media_laws.specs.declared.facts.Facts.{Facts}
use Rattle.hls_check_tables.specs.declared.spot.Spot.{Spot}
use Rattle.hls_places_laws.specs.declared.search_position.SearchPosition.{SearchPosition}
use Rattle.hls_places_laws.specs.declared.place.Place.{Place}
use Rattle.hls_places_laws.specs.Sources.{Source, fact_at, source_at, first_facts, IsTimeline}
use Rattle.hls_places_laws.specs.Spots.{first_entry}
use Rattle.hls_places_laws.specs.Places.{spots, place_of, common_at}
use Rattle.hls_places_laws.specs.SearchPositions.{IsAsked, IsDecided, IsCursor}
use Rattle.hls_places.proofs.Cited.{starts-never_fall, before_entry, entry-later, none-left}
use Rattle.hls_places.specs.Searches.{AreEarly, AreAtEntries, AllSettled, IsUnsettled}
use Rattle.hls_places.specs.Decisions.{AddsPlaceOf, StopsAt}

-- what is known when fragment `done`, with the facts f, is examined
pub record IsLooking (sources : List Source) (done : ℕ) (search_positions : List SearchPosition) (f : Facts) : Type 0 where
  pub order : IsTimeline (first_facts sources)
  pub more : done < length (first_facts sources)
  pub cursor : IsCursor (record { done = done; search_positions = search_positions }) sources
  pub facts_are : f ≡ fact_at (first_facts sources) done

-- the start of a fragment is at or after the start of every fragment up to it
asked-here : (fs : List Facts) (done : ℕ) → IsTimeline fs → done < length fs → IsAsked fs done (fact_at fs done).start_us
asked-here fs done order more i below within = starts-never_fall fs order i done below more

-- when a fragment is examined, no fragment before a rendition's position is an entry for its start
pub search_positions-early : (sources : List Source) (done : ℕ) (search_positions : List SearchPosition) (f : Facts) → IsLooking sources done search_positions f →
    AreEarly f.start_us sources search_positions
search_positions-early sources done search_positions f looking r within j before =
    rw looking.facts_are ((looking.cursor.search_positions r within).passed (fact_at (first_facts sources) done).start_us j
    (asked-here (first_facts sources) done looking.order looking.more) before)

-- positions that were advanced to the first entries for the examined fragment still fit
pub cursor-sought : (sources : List Source) (done : ℕ) (search_positions moved : List SearchPosition) (f : Facts) →
    IsLooking sources done search_positions f → length moved ≡ length sources → AreAtEntries f.start_us sources moved →
    IsCursor (record { done = done; search_positions = moved }) sources
cursor-sought sources done search_positions moved f looking count found = record {
  count = count;
  within = looking.cursor.within;
  decided = looking.cursor.decided;
  search_positions = λ r within.
      let at = found r within in
      let low : ℕ = f.start_us - (source_at sources r).tolerance in
      record {
        within = at.run.within;
        runs = at.run.runs;
        passed = λ t j asked before.
            let start : f.start_us ≡ (fact_at (first_facts sources) done).start_us =
            ap (λ (x : Facts). x.start_us) looking.facts_are in
            let here = asked done (omega arith) looking.more in
            entry-later low (t - (source_at sources r).tolerance) (fact_at (source_at sources r).facts j)
            (omega (arith, start, here))
            (before_entry low (source_at sources r).facts j (omega (arith, at.found, before)));
      };
}

-- a search may continue after a decided fragment
pub cursor-next : (sources : List Source) (done : ℕ) (search_positions : List SearchPosition) → IsCursor (record { done = done; search_positions = search_positions }) sources →
    done < length (first_facts sources) → IsDecided sources done → IsCursor (record { done = done + 1; search_positions = search_positions }) sources
cursor-next sources done search_positions cursor more decided = record {
  count = cursor.count;
  within = omega arith;
  decided = λ i before. elim (cases_lt i done) [
    | inl earlier ↦ cursor.decided i earlier
    | inr at_end ↦
        let same : done ≡ i = omega arith in
        let P : ℕ → Type 0 = λ x. IsDecided sources x in
        subst P same decided
  ];
  search_positions = λ r within.
      let search_position = cursor.search_positions r within in
      record {
        within = search_position.within;
        runs = search_position.runs;
        passed = λ t j asked before. search_position.passed t j (λ i below inside. asked i (omega arith) inside) before;
      };
}

-- if each rendition is settled, the fragment is decided
pub decided-settled : (sources : List Source) (done : ℕ) (search_positions moved : List SearchPosition) (f : Facts) →
    IsLooking sources done search_positions f → AreAtEntries f.start_us sources moved → AllSettled sources moved → IsDecided sources done
decided-settled sources done search_positions moved f looking found settled sync r within =
    let at = found r within in
    let start : f.start_us ≡ (fact_at (first_facts sources) done).start_us =
    ap (λ (x : Facts). x.start_us) looking.facts_are in
    elim (settled r within) [
      | inl over ↦ inl over
      | inr here ↦ inr (rw (← start) (omega (arith, at.found, here)))
    ]

-- if some rendition isn't settled for the examined fragment, the search stops there: no place is added and none remains
pub left-at : (sources : List Source) (done r : ℕ) (search_positions moved : List SearchPosition) (f : Facts) (places : List Place) →
    IsLooking sources done search_positions f → length moved ≡ length sources → AreAtEntries f.start_us sources moved →
    IsUnsettled sources moved r → StopsAt sources done moved places places
left-at sources done r search_positions moved f places looking count found unsettled =
    let at = found r unsettled.within in
    let start : f.start_us ≡ (fact_at (first_facts sources) done).start_us =
    ap (λ (x : Facts). x.start_us) looking.facts_are in
    let none : first_entry (f.start_us - (source_at sources r).tolerance) (source_at sources r).facts
    ≡ length (source_at sources r).facts = omega (arith, at.found, unsettled.over) in
    record {
      places = refl;
      cursor = cursor-sought sources done search_positions moved f looking count found;
      exhausted = none-left sources done r looking.order unsettled.within (rw start at none);
    }

-- if all renditions are settled for the examined sync fragment and have spots, its place is added
pub told-some : (sources : List Source) (done : ℕ) (search_positions moved : List SearchPosition) (f : Facts) (found : List Spot) (before after : List Place) →
    IsLooking sources done search_positions f → length moved ≡ length sources → AreAtEntries f.start_us sources moved →
    AllSettled sources moved → f.sync ≡ true → spots sources f.start_us ≡ Some found → after ≡ before ++ place_of found ∷ [] →
    AddsPlaceOf sources done moved before after
told-some sources done search_positions moved f found before after looking count entries settled sync is after_is = record {
  places =
      let place : common_at sources f ≡ Some (place_of found) =
      cond-true f.sync _ _ sync ∙ ap (option_map place_of) is in
      rw (← looking.facts_are, place) after_is;
  cursor = cursor-next sources done moved (cursor-sought sources done search_positions moved f looking count entries) looking.more
      (decided-settled sources done search_positions moved f looking entries settled);
}

-- if all renditions are settled for the examined sync fragment but some rendition has no spot, there is no place, and the search continues
pub told-none : (sources : List Source) (done : ℕ) (search_positions moved : List SearchPosition) (f : Facts) (places : List Place) →
    IsLooking sources done search_positions f → length moved ≡ length sources → AreAtEntries f.start_us sources moved →
    AllSettled sources moved → f.sync ≡ true → spots sources f.start_us ≡ None → AddsPlaceOf sources done moved places places
told-none sources done search_positions moved f places looking count entries settled sync is = record {
  places =
      let place : common_at sources f ≡ None = cond-true f.sync _ _ sync ∙ ap (option_map place_of) is in
      rw (← looking.facts_are, place) (sym (append-nil places));
  cursor = cursor-next sources done moved (cursor-sought sources done search_positions moved f looking count entries) looking.more
      (decided-settled sources done search_positions moved f looking entries settled);
}
