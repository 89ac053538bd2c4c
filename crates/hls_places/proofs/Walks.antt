-- The walk along rendition 0, and the cursor at its start.
use Rattle.std.proofs.Common.{◌≡◌, ℕ, suc, ◌+◌, ◌<◌, List, [], ◌++◌, length, take, drop, replicate, Option, Some, None, Bool, true, false, arith, refl, ◌∙◌}
use Rattle.std.specs.List.{filter_map, cons_option}
use Rattle.std.specs.Option.{option_to_list}
use Rattle.std.proofs.Math.Seq.{drop-cons}
use Rattle.std.proofs.lemmas.List.{append-nil, append_assoc, take_all, drop_all, length-replicate, get_or-replicate}
use Rattle.hls_media_laws.specs.declared.facts.Facts.{Facts}
use Rattle.hls_places_laws.specs.declared.search_position.SearchPosition.{SearchPosition}
use Rattle.hls_places_laws.specs.declared.place.Place.{Place}
use Rattle.hls_places_laws.specs.Sources.{Source, fact_at, no_facts, first_facts}
use Rattle.hls_places_laws.specs.Places.{common_at}
use Rattle.hls_places_laws.specs.SearchPositions.{no_position, position_at, first_cursor, IsCursor}
use Rattle.hls_places.specs.Decisions.{HasDecided, AddsPlaceOf, StopsAt}

-- if a fragment was decided, its place was added; if not (`was-left`), the search stops at it
pub was-told : (sources : List Source) (done : ℕ) (search_positions : List SearchPosition) (before after : List Place) (told : Bool) →
    HasDecided sources done search_positions before after told → told ≡ true → AddsPlaceOf sources done search_positions before after
was-told sources done search_positions before after true has is = has
was-told sources done search_positions before after false has is = absurd (cc)

pub was-left : (sources : List Source) (done : ℕ) (search_positions : List SearchPosition) (before after : List Place) (told : Bool) →
    HasDecided sources done search_positions before after told → told ≡ false → StopsAt sources done search_positions before after
was-left sources done search_positions before after true has is = absurd (cc)
was-left sources done search_positions before after false has is = has

-- putting an optional element before a list appends the list to that element alone
option-append : {Y : Type 0} (o : Option Y) (ys : List Y) → cons_option o ys ≡ option_to_list o ++ ys
option-append None ys = refl
option-append (Some y) ys = refl

-- the places from fragment k on are the place at fragment k, if there is one, and those from the next fragment on
filter_map-step : (f : Facts → Option Place) (fs : List Facts) (k : ℕ) → k < length fs →
    filter_map f (drop k fs) ≡ option_to_list (f (fact_at fs k)) ++ filter_map f (drop (k + 1) fs)
filter_map-step f fs k h =
    let next : k + 1 ≡ suc k = omega arith in
    rw (next, drop-cons fs k no_facts h) (option-append (f (fact_at fs k)) (filter_map f (drop (suc k) fs)))

-- adding the place of fragment `done` to those before keeps the whole list, with the places from the next fragment on
pub walk-on : (sources : List Source) (done : ℕ) (search_positions : List SearchPosition) (before after whole : List Place) →
    done < length (first_facts sources) → AddsPlaceOf sources done search_positions before after →
    before ++ filter_map (common_at sources) (drop done (first_facts sources)) ≡ whole →
    after ++ filter_map (common_at sources) (drop (done + 1) (first_facts sources)) ≡ whole
walk-on sources done search_positions before after whole more told so_far =
    let step = filter_map-step (common_at sources) (first_facts sources) done more in
    rw told.places
    (append_assoc before (option_to_list (common_at sources (fact_at (first_facts sources) done)))
    (filter_map (common_at sources) (drop (done + 1) (first_facts sources)))
    ∙ (rw (← step) so_far))

-- a vector whose slice was replaced by one of its own length has the new elements
pub written-back : (len : ℕ) (items new : List SearchPosition) → length items ≡ len → length new ≡ len →
    take len (new ++ drop (length new) items) ≡ new
written-back len items new same also =
    let rest : drop (length new) items ≡ [] = drop_all (length new) items (omega arith) in
    rw (rest, append-nil new) (take_all len new (omega arith))

-- the cursor at the start fits any renditions of its number
pub first-cursor : (n : ℕ) (sources : List Source) → n ≡ length sources → IsCursor (first_cursor n) sources
first-cursor n sources count = record {
  count = length-replicate n no_position ∙ count;
  within = omega arith;
  decided = λ i before. absurd (omega arith);
  search_positions = λ r within.
      let fresh : position_at (replicate n no_position) r ≡ no_position = get_or-replicate n r no_position no_position (omega (arith, count)) in
      rw fresh (record { within = omega arith; runs = refl; passed = λ t j asked before. absurd (omega arith) });
}
