-- For the proofs of this crate; no public clause cites it. The results of examining the fragments of rendition 0.
use Rattle.std.specs.Prelude.{◌≡◌, ℕ, ◌+◌, Bool, true, false, List, ◌++◌, drop}
use Rattle.std.specs.List.{filter_map}
use Rattle.std.specs.Option.{option_to_list}
use Rattle.hls_places_laws.specs.declared.search_position.SearchPosition.{SearchPosition}
use Rattle.hls_places_laws.specs.declared.place.Place.{Place}
use Rattle.hls_places_laws.specs.Sources.{Source, fact_at, first_facts}
use Rattle.hls_places_laws.specs.Places.{common_at}
use Rattle.hls_places_laws.specs.SearchPositions.{IsCursor, IsExhausted}
use Rattle.hls_places.specs.declared.cursor.PlaceAdvance.{PlaceAdvance}

-- the examined fragment's place was added, if there is one, and the search continues after it
pub record AddsPlaceOf (sources : List Source) (done : ℕ) (search_positions : List SearchPosition) (before after : List Place) : Type 0 where
  pub places : after ≡ before ++ option_to_list (common_at sources (fact_at (first_facts sources) done))
  pub cursor : IsCursor (record { done = done + 1; search_positions = search_positions }) sources

-- the examined fragment isn't decided, so no place was added and none remains
pub record StopsAt (sources : List Source) (done : ℕ) (search_positions : List SearchPosition) (before after : List Place) : Type 0 where
  pub places : after ≡ before
  pub cursor : IsCursor (record { done = done; search_positions = search_positions }) sources
  pub exhausted : IsExhausted (record { done = done; search_positions = search_positions }) sources

-- the result of examining fragment `done`: true if it is decided and its place added, false if the search stops at it
abbrev pub HasDecided : List Source → ℕ → List SearchPosition → List Place → List Place → Bool → Type 0
HasDecided sources done search_positions before after true = AddsPlaceOf sources done search_positions before after
HasDecided sources done search_positions before after false = StopsAt sources done search_positions before after

-- the common places at the fragments of rendition 0 from number `done`
pub record IsWalk (sources : List Source) (done : ℕ) (advance : PlaceAdvance) : Type 0 where
  pub places : advance.places.items ≡ filter_map (common_at sources) (drop done (first_facts sources))
  pub cursor : IsCursor advance.cursor sources
  pub exhausted : IsExhausted advance.cursor sources
