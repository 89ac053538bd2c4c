-- The first and the last place of a request's programme, among all places of a state and among its kept ones.
use Rattle.std.proofs.Common.{◌≡◌, ◌∙◌, ℕ, ◌+◌, ◌-◌, ◌<◌, ◌≤◌, List, length, take, drop, get_or, false, None, arith, refl, sym, ap, inl, inr, length-drop, length-take}
use Rattle.std.specs.Prelude.{nat_lt, slice_get}
use Rattle.std.proofs.lemmas.Bool.{cases_lt, le-ltb}
use Rattle.std.proofs.lemmas.List.{get_or-drop, get_or-take, get_or_past, length-map, length-take-le}
use Rattle.std.proofs.lemmas.Option.{slice_get-get_or}
use Rattle.hls_blocks.specs.Numbered.{Numbered, item_at}
use Rattle.hls_check_tables.specs.declared.spot.Spot.{Spot}
use Rattle.hls_check_tables.specs.Tables.{Table, place_at, spot_in}
use Rattle.hls_places_laws.specs.declared.place.Place.{Place}
use Rattle.hls_places_laws.specs.Order.{no_place, spots_of, time_of}
use Rattle.hls_places_laws.specs.Programmes.{time_at}
use Rattle.hls_core_laws.specs.IsState.{IsState}
use Rattle.hls_core_laws.specs.Places.{kept_places, places}
use Rattle.hls_core_laws.specs.State.{State}
use Rattle.hls_catchup.specs.declared.programme.Programme.{Programme}
use Rattle.hls_catchup.specs.declared.request.Request.{Request}
use Rattle.hls_catchup.specs.Canonical.{IsCanonical, with_times}
use Rattle.hls_catchup.specs.KeptPlaces.{PlacesAndFloors, kept_places_from}
use Rattle.hls_catchup.specs.Programmes.{ArePlacesFor}
use Rattle.hls_catchup.proofs.Cited.{table-place}
use Rattle.hls_catchup.proofs.Walks.{kept-from}

-- place k of a list
abbrev nth : List Place → ℕ → Place
nth ps k = get_or ps k no_place

-- the time of a place that isn't there is 0
pub time-none : (s : Numbered Place) (n : ℕ) → s.first ≡ 0 → None ≡ item_at s n → 0 ≡ time_at s.items n
time-none s n first is =
    let test : nat_lt n s.first ≡ false = le-ltb n s.first (omega (arith, first)) in
    let number : n - s.first ≡ n = omega (arith, first) in
    let at : item_at s n ≡ slice_get s.items n = rw (test, number) refl in
    elim (cases_lt n (length s.items)) [
      | inl less ↦ (let there = slice_get-get_or s.items n no_place less in absurd (cc (is, at, there)))
      | inr past ↦ ap time_of (sym (get_or_past s.items n no_place past))
    ]

-- place i of a range of a list, as the spots of a table
range-place : (ps : List Place) (from count i : ℕ) → i < count → place_at (spots_of (take count (drop from ps))) i ≡ (nth ps (from + i)).spots
range-place ps from count i less =
    table-place (take count (drop from ps)) i
    ∙ ap (λ (p : Place). p.spots) (get_or-take count (drop from ps) i no_place less ∙ get_or-drop from ps i no_place)

-- a range of places has as many spots of a table
range-long : (ps : List Place) (from count : ℕ) → from + count ≤ length ps → length (spots_of (take count (drop from ps))) ≡ count
range-long ps from count few =
    length-map (take count (drop from ps)) (λ p. p.spots) ∙ length-take-le count (drop from ps) (let left = length-drop from ps in omega (arith, left, few))

module _ (s : State) (state : IsState s) (request : Request) (p : Programme) (are : ArePlacesFor s request p) where
  abbrev ks : List Place
  ks = kept_places s

  -- the first and the last kept place of the programme
  abbrev first : ℕ
  first = are.defined.programme.0.s

  abbrev last : ℕ
  last = are.defined.programme.0.e

  -- the programme's places, from all and from the kept ones
  part : kept_places_from p.places p.from ≡ drop p.from (places s)
  part = ap (λ (k : PlacesAndFloors). kept_places_from k p.from) are.places_are ∙ kept-from s state request.start_us p.from are.kept

  both : spots_of (take p.count (drop p.from (places s))) ≡ spots_of (take (last + 1 - first) (drop first ks))
  both = ap (λ (ps : List Place). spots_of (take p.count ps)) (sym part) ∙ ap (λ (t : Table). t.places) are.defined.programme.0.is

  -- the programme has two places, so its last kept place is after its first one
  order : first < last
  order =
      let two = are.valid.count.0 in
      let count = ap length both in
      let here = ap (λ (ps : List Place). length (spots_of (take p.count ps))) part in
      let long = length-map (take (last + 1 - first) (drop first ks)) (λ p. p.spots) in
      let most = length-take (last + 1 - first) (drop first ks) in
      omega (arith, two, count, here, long, most)

  count_is : p.count ≡ last + 1 - first
  count_is =
      let few = are.defined.programme.0.ends.there in
      let up = order in
      sym (range-long (places s) p.from p.count are.there) ∙ ap length both ∙ range-long ks first (last + 1 - first) (omega (arith, few, up))

  -- place i of the programme has the same time in both lists
  time-same : (i : ℕ) → i < p.count → time_at (places s) (p.from + i) ≡ time_at ks (first + i)
  time-same i less =
      let count = count_is in
      ap (λ (spots : List Spot). (spot_in spots 0).start)
      (sym (range-place (places s) p.from p.count i less) ∙ ap (λ (t : List (List Spot)). place_at t i) both ∙ range-place ks first (last + 1 - first) i (omega (arith, less, count)))

  some : 1 ≤ p.count
  some = let count = count_is in let up = order in omega (arith, count, up)

  first-time : time_at (places s) p.from ≡ time_at ks first
  first-time =
      let here : p.from + 0 ≡ p.from = omega arith in
      let there : first + 0 ≡ first = omega arith in
      ap (time_at (places s)) (sym here) ∙ time-same 0 some ∙ ap (time_at ks) there

  last-time : time_at (places s) (p.from + p.count - 1) ≡ time_at ks last
  last-time =
      let count = count_is in
      let up = order in
      let one = some in
      let here : p.from + (p.count - 1) ≡ p.from + p.count - 1 = omega (arith, one) in
      let there : first + (p.count - 1) ≡ last = omega (arith, count, up) in
      ap (time_at (places s)) (sym here) ∙ time-same (p.count - 1) (omega (arith, one)) ∙ ap (time_at ks) there

  -- the request with the times of these places is the canonical one
  pub are-canonical : IsCanonical s request (with_times request (time_at (places s) p.from) (time_at (places s) (p.from + p.count - 1)))
  are-canonical = record {
    in_range = are.defined.in_range;
    first = first;
    last = last;
    begins = are.defined.programme.0.begins;
    ends = are.defined.programme.0.ends;
    is = ap (λ n. with_times request n (time_at (places s) (p.from + p.count - 1))) first-time ∙ ap (λ n. with_times request (time_at ks first) n) last-time;
  }
