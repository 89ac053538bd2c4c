-- What a request's table is made of, and which fault replaces it.
use Rattle.std.proofs.Common.{◌≡◌, ℕ, zero, suc, ◌+◌, ◌-◌, ◌<◌, ◌≤◌, List, [], ◌∷◌, length, drop, take, Bool, true, false, not, arith, refl, sym, ap, subst, inl, inr, ◌∙◌, Ok, Err, length-drop}
use Rattle.std.specs.Prelude.{nat_lt, if◌then◌else◌}
use Rattle.std.proofs.lemmas.Bool.{cases_Bool, lt-leb, ltb-false}
use Rattle.std.proofs.lemmas.List.Sums.{prefix_len-le-length}
use Rattle.hls_check_tables.specs.Tables.{Table, place_limit, IsTable, table_of}
use Rattle.hls_check_tables.specs.Orders.{IsOrderly}
use Rattle.hls_core_laws.specs.State.{State}
use Rattle.hls_core_laws.specs.Config.{IsConfig}
use Rattle.hls_core_laws.specs.IsState.{IsState}
use Rattle.hls_core_laws.specs.Places.{sources, places, floors, kept_places}
use Rattle.hls_catchup.proofs.Cited.{lanes_count, sources_count, places-ordered, filter-ordered, table-place, ordered-places, IsRange, start-before_stop, cut_out-is_table, cut_out-is_orderly, none-by, stops-late, programme-fits, programme-too_long}
use Rattle.hls_places_laws.specs.declared.place.Place.{Place}
use Rattle.hls_places_laws.specs.Sources.{AreSources}
use Rattle.hls_places_laws.specs.Order.{no_place, time_of, spots_of, renditions_in, AreOrdered, ArePlaces}
use Rattle.hls_places_laws.specs.Firsts.{first_after, first_from}
use Rattle.hls_places_laws.specs.Programmes.{is_kept, filter_kept, table_between, StopsLate}
use Rattle.hls_catchup.specs.declared.programme.Programme.{Programme}
use Rattle.hls_catchup.specs.declared.request.Request.{Request}
use Rattle.hls_catchup.specs.declared.fault.CatchFault.TheVariants.{BeforeRecording, NotYet, AfterRecording, ProgrammeTooLong}
use Rattle.hls_catchup.specs.KeptPlaces.{PlacesAndFloors, places_and_floors_of, kept_places_from, IsLastBy}
use Rattle.hls_catchup.specs.Requests.{all_finished, goal_for, IsInRange, IsTableFor}
use Rattle.hls_catchup.specs.Programmes.{programme_table, ArePlacesFor}
use Rattle.hls_core.specs.KeptPlaces.{IsLastKeptBy}
use Rattle.hls_catchup.proofs.Walks.{after-later, from-later, kept-from}

-- without places there is no table
pub placeless : (s : State) (request : Request) (t : Table) → places s ≡ [] → IsTableFor s request (Ok t) → ⊥
placeless s request t none is =
    let first = is.programme.0.begins in
    let there : is.programme.0.s < length (kept_places s) = first.there in
    let few : length (kept_places s) ≡ 0 = ap (λ (ps : List Place). length (filter_kept (floors s) ps)) none in
    omega arith

-- if a place that is by the start is put before others, the first place at or after the stop is as far from the last one by the
-- start as it was
apart-step : (start stop : ℕ) → start < stop → (p : Place) (ks : List Place) (a : ℕ) → first_after start ks ≡ a →
    first_after start (p ∷ ks) ≡ 1 + a → first_from stop (p ∷ ks) ≡ 1 + first_from stop ks →
    (1 ≤ first_after start ks → first_from stop ks ≡ (first_after start ks - 1) + first_from stop (drop (first_after start ks - 1) ks)) →
    first_from stop (p ∷ ks) ≡ (first_after start (p ∷ ks) - 1) + first_from stop (drop (first_after start (p ∷ ks) - 1) (p ∷ ks))
apart-step start stop order p ks zero is after from rest =
    let none : first_after start (p ∷ ks) - 1 ≡ 0 = omega arith in
    rw none (omega arith)
apart-step start stop order p ks (suc a) is after from rest =
    let here : first_after start (p ∷ ks) - 1 ≡ suc a = omega arith in
    let there : first_after start ks - 1 ≡ a = omega arith in
    let before : first_from stop ks ≡ (first_after start ks - 1) + first_from stop (drop (first_after start ks - 1) ks) = rest (omega arith) in
    let known : first_from stop ks ≡ a + first_from stop (drop a ks) = rw there at before in
    rw here (omega arith)

-- the first place at or after the stop may be searched from the last one at or before the start
first-apart : (start stop : ℕ) → start < stop → (ks : List Place) → 1 ≤ first_after start ks →
    first_from stop ks ≡ (first_after start ks - 1) + first_from stop (drop (first_after start ks - 1) ks)
first-apart start stop order [] some = absurd (omega arith)
first-apart start stop order (p ∷ ks) some =
    elim (cases_Bool (nat_lt start (time_of p))) [
      | inl late ↦
          (let none : first_after start (p ∷ ks) ≡ 0 = rw late refl in
          absurd (omega arith))
      | inr early ↦
          (let by : time_of p ≤ start = ltb-false start (time_of p) early in
          let from : first_from stop (p ∷ ks) ≡ 1 + first_from stop ks = from-later stop p ks (lt-leb stop (time_of p) (omega arith)) in
          let after : first_after start (p ∷ ks) ≡ 1 + first_after start ks = after-later start p ks early in
          apart-step start stop order p ks (first_after start ks) refl after from (first-apart start stop order ks))
    ]

-- the searches among all kept places agree with those from place n on, the last kept one by the start
record AreApart (s : State) (request : Request) (n : ℕ) : Type 0 where
  some : 1 ≤ first_after request.start_us (kept_places s)
  rest : kept_places_from (places_and_floors_of s) n ≡ drop (first_after request.start_us (kept_places s) - 1) (kept_places s)
  to : first_from request.stop_us (kept_places s) ≡ (first_after request.start_us (kept_places s) - 1) + first_from request.stop_us (kept_places_from (places_and_floors_of s) n)
  long : length (kept_places s) ≡ (first_after request.start_us (kept_places s) - 1) + length (kept_places_from (places_and_floors_of s) n)

-- if place n is the last kept one by the start, a search from it on finds the stop where a search of all kept places does
are_apart : (s : State) (request : Request) (n : ℕ) → IsInRange s request → IsLastBy (places_and_floors_of s) request.start_us n → AreApart s request n
are_apart s request n range last =
    let ks : List Place = kept_places s in
    let a : ℕ = first_after request.start_us ks in
    let some : 1 ≤ a = last.some in
    let rest : kept_places_from (places_and_floors_of s) n ≡ drop (a - 1) ks = last.rest in
    let few : a ≤ length ks = prefix_len-le-length (λ (p : Place). not (nat_lt request.start_us (time_of p))) ks in
    let count : length (kept_places_from (places_and_floors_of s) n) ≡ length ks - (a - 1) = ap length rest ∙ length-drop (a - 1) ks in
    record {
      some = some;
      rest = rest;
      to = first-apart request.start_us request.stop_us range.order ks some ∙ ap (λ (qs : List Place). (a - 1) + first_from request.stop_us qs) (sym rest);
      long = omega arith;
    }

-- the kept places are in order, with a spot for each rendition
ordered : (s : State) → AreSources (sources s) → AreOrdered (length (sources s)) (kept_places s)
ordered s are = filter-ordered (length (sources s)) (is_kept (floors s)) (places s) (places-ordered (sources s) are)

-- the kept places of a state are places in order, with a spot for each rendition
pub kept-are_places : (s : State) → AreSources (sources s) → ArePlaces (kept_places s)
kept-are_places s are = ordered-places (length (sources s)) (kept_places s) are.some are.few (ordered s are)

-- if the stop is after the last kept place, the fault is AfterRecording if all renditions are finished, and else NotYet
past_shown : (s : State) (request : Request) (over : Bool) → all_finished s ≡ over → IsInRange s request →
    StopsLate (kept_places s) request.start_us request.stop_us → IsTableFor s request (Err (if over then AfterRecording else NotYet))
past_shown s request true is range late = record { in_range = range; programme = (late, is) }
past_shown s request false is range late = record { in_range = range; programme = (late, is) }

-- if all kept places from the last one by the start on are before the stop, the fault is AfterRecording or NotYet
pub past_all : (s : State) (request : Request) (n : ℕ) → AreSources (sources s) → IsInRange s request →
    IsLastBy (places_and_floors_of s) request.start_us n →
    length (kept_places_from (places_and_floors_of s) n) ≤ first_from request.stop_us (kept_places_from (places_and_floors_of s) n) →
    IsTableFor s request (Err (if all_finished s then AfterRecording else NotYet))
past_all s request n are range last past =
    let apart = are_apart s request n range last in
    let late : length (kept_places s) ≤ first_from request.stop_us (kept_places s) = omega (arith, apart.to, apart.long) in
    past_shown s request (all_finished s) refl range
    (stops-late (kept_places s) (kept-are_places s are) request.start_us request.stop_us apart.some late)

-- if no kept place is by the start, the fault is BeforeRecording
pub none_before : (s : State) (request : Request) → AreSources (sources s) → IsInRange s request →
    first_after request.start_us (kept_places s) ≡ 0 → IsTableFor s request (Err BeforeRecording)
none_before s request are range none = record {
  in_range = range;
  programme = none-by (kept_places s) (kept-are_places s are) request.start_us none;
}

-- how many kept places a programme has, from place number n on
pub record IsCounted (s : State) (request : Request) (n count : ℕ) : Type 0 where
  pub last : IsLastBy (places_and_floors_of s) request.start_us n
  pub count_is : count ≡ first_from request.stop_us (kept_places_from (places_and_floors_of s) n) + 1
  pub there : count ≤ length (kept_places_from (places_and_floors_of s) n)

-- a count of the kept places from n on is their number from the last one by the start to the first one at or after the stop
count_is : (s : State) (request : Request) (n count : ℕ) → AreApart s request n → count ≡ first_from request.stop_us (kept_places_from (places_and_floors_of s) n) + 1 →
    first_from request.stop_us (kept_places s) + 1 - (first_after request.start_us (kept_places s) - 1) ≡ count
count_is s request n count apart is = omega (arith, apart.to, apart.some)

-- if a programme has more places than the limit, the fault is ProgrammeTooLong
pub too_long : (s : State) (request : Request) (n count : ℕ) → AreSources (sources s) → IsInRange s request →
    IsCounted s request n count → place_limit < count → IsTableFor s request (Err ProgrammeTooLong)
too_long s request n count are range counted long =
    let apart = are_apart s request n range counted.last in
    let within : first_from request.stop_us (kept_places s) < length (kept_places s) = omega (arith, apart.to, apart.long, counted.count_is, counted.there) in
    let same = count_is s request n count apart counted.count_is in
    record {
      in_range = range;
      programme = programme-too_long (goal_for s request) (kept_places s) (kept-are_places s are) request.start_us request.stop_us
          range.order apart.some within (omega (arith, same, long));
    }

-- if there is a kept place, it has a spot for each rendition of the channel
renditions_are : (s : State) → AreSources (sources s) → 0 < length (kept_places s) → renditions_in (kept_places s) ≡ length s.config.renditions
renditions_are s are some =
    ap length (table-place (kept_places s) 0) ∙ ((ordered s are).each 0 no_place some).place.count
    ∙ sources_count s ∙ lanes_count s.config s.log

-- the last kept place by the start is before the first one at or after the stop
start_before : (s : State) (request : Request) → IsInRange s request → 1 ≤ first_after request.start_us (kept_places s) →
    first_from request.stop_us (kept_places s) < length (kept_places s) →
    first_after request.start_us (kept_places s) - 1 < first_from request.stop_us (kept_places s)
start_before s request range some within =
    omega (arith, start-before_stop request.start_us request.stop_us (kept_places s) range.order within)

-- the kept places that were counted, if they are within the limit, are the programme of the request
pub programme_there : (s : State) (request : Request) (p : Programme) → IsState s → AreSources (sources s) → IsInRange s request →
    p.places ≡ places_and_floors_of s → IsLastKeptBy s request.start_us p.from → IsCounted s request p.from p.count → p.count ≤ place_limit → ArePlacesFor s request p
programme_there s request p valid are range same_places kept counted few =
    let ks : List Place = kept_places s in
    let a : ℕ = first_after request.start_us ks in
    let to : ℕ = first_from request.stop_us ks in
    let apart = are_apart s request p.from range counted.last in
    let within : to < length ks = omega (arith, apart.to, apart.long, counted.count_is, counted.there) in
    let same : to + 1 - (a - 1) ≡ p.count = count_is s request p.from p.count apart counted.count_is in
    let table : Table = table_between (goal_for s request) ks (a - 1) to in
    let part : kept_places_from p.places p.from ≡ drop (a - 1) ks = ap (λ (k : PlacesAndFloors). kept_places_from k p.from) same_places ∙ apart.rest in
    let made : table ≡ programme_table s request p =
    ap (λ (r : ℕ). table_of (goal_for s request) r (spots_of (take (to + 1 - (a - 1)) (drop (a - 1) ks)))) (renditions_are s are (omega arith))
    ∙ ap (λ (n : ℕ). table_of (goal_for s request) (length s.config.renditions) (spots_of (take n (drop (a - 1) ks)))) same
    ∙ ap (λ (qs : List Place). table_of (goal_for s request) (length s.config.renditions) (spots_of (take p.count qs))) (sym part) in
    let config : IsConfig s.config = valid.configured in
    let places_are : ArePlaces ks = kept-are_places s are in
    let span : IsRange ks (a - 1) to = record { order = start_before s request range apart.some within; within = within } in
    record {
      within = subst (λ (k : PlacesAndFloors). p.from ≤ length k.items) (sym same_places) counted.last.within;
      places_are = same_places;
      kept = kept;
      there = omega (arith, counted.there, counted.last.within, ap length (kept-from s valid request.start_us p.from kept), length-drop p.from (places s));
      defined = record {
        in_range = range;
        programme = programme-fits (goal_for s request) ks places_are request.start_us request.stop_us range.order apart.some within
            (omega (arith, same, few)) (programme_table s request p) (sym made);
      };
      valid = subst IsTable made (cut_out-is_table (goal_for s request) ks (a - 1) to places_are span
          (record {
            target = config.target;
            preferred = (range.preferred.0, omega (arith, range.preferred.1, config.target.1));
            charge = range.charge;
          }) (omega (arith, same, few)));
      orderly = subst IsOrderly made (cut_out-is_orderly (goal_for s request) ks (a - 1) to places_are span);
    }
