-- The programmes of a renewed channel are those of the old one, counted from the cut.
use Rattle.std.proofs.Common.{◌≡◌, ◌∙◌, ℕ, suc, ◌+◌, ◌-◌, ◌<◌, ◌≤◌, Bool, true, false, Option, Some, Err, List, [], ◌∷◌, ◌++◌, length, map, take, drop, get_or, arith, refl, sym, ap, subst, inl, inr}
use Rattle.std.specs.Prelude.{◌&&◌, Result, ℤ, cond, nat_le, slice_get}
use Rattle.std.specs.List.{filter, list_all}
use Rattle.std.proofs.lemmas.Bool.{and_from, cases_lt, cond-true, le-leb}
use Rattle.std.proofs.lemmas.List.{get_or-drop, length-drop, length-map, take-append-drop}
use Rattle.std.proofs.Math.Seq.{drop-append_seam}
use Rattle.std.proofs.lemmas.Option.{get_or_from_slice_get, slice_get-get_or, slice_get_within}
use Rattle.hls_media_laws.specs.declared.facts.Facts.{Facts}
use Rattle.hls_record.specs.RecordingData.{RecordingData}
use Rattle.hls_check_tables.specs.declared.goal.Goal.{Goal}
use Rattle.hls_check_tables.specs.declared.spot.Spot.{Spot}
use Rattle.hls_check_tables.specs.Tables.{Table, place_at}
use Rattle.hls_places_laws.specs.declared.fault.ProgrammeFault.{ProgrammeFault}
use Rattle.hls_places_laws.specs.declared.fault.ProgrammeFault.TheVariants.{BeforeRecording}
use Rattle.hls_places_laws.specs.declared.place.Place.{Place}
use Rattle.hls_places_laws.specs.FromPlace.{AreInRow, AreSpotsFrom, PlacesFromAPlaceAgree, PlacesNeverGoBack, place_since}
use Rattle.hls_places_laws.specs.Order.{AreOrdered, no_place, time_of}
use Rattle.hls_places_laws.specs.Programmes.{IsProgramme, IsProgrammeTable, NoPlaceBy, is_kept, is_kept_above}
use Rattle.hls_places_laws.specs.Line.FromCut.{LineFromCutAgrees}
use Rattle.hls_places_laws.proofs.Callers.{filter-ordered}
use Rattle.hls_core_laws.specs.Config.{ConfigData}
use Rattle.hls_core_laws.specs.Channel.{Lane}
use Rattle.hls_core_laws.specs.State.{State, HeldBytes, channel, no_bytes}
use Rattle.hls_core_laws.specs.IsState.{IsState}
use Rattle.hls_core_laws.specs.Places.{floor_of, floors, is_finished, kept_places, places, sources}
use Rattle.hls_core_laws.specs.Outcome.{held_bytes}
use Rattle.hls_core_laws.proofs.Callers.{at_map, at_or, floors-count, kept-goes-on, ordered, some_at, sources_count, spots-count, states_are_timed}
use Rattle.hls_core.specs.Getters.{recording_of}
use Rattle.hls_playlists_laws.specs.Handovers.{unit_at as cut_unit}
use Rattle.hls_playlists_laws.specs.JobPlaylists.{job_list}
use Rattle.hls_renewal.specs.declared.line_cut.LineCut.{LineCut}
use Rattle.hls_renewal.specs.Laws.{EarlierProgrammesAreRefused, RenewedCatchUpListsAreEqual, RenewedPlansAgree, RenewedProgrammesAgree}
use Rattle.hls_renewal.specs.Programmes.{HasSamePlans, IsProgrammeOf, programme_since, table_since}
use Rattle.hls_renewal.specs.Renewals.{Renews}
use Rattle.hls_renewal.proofs.EqualLists.{renewed_state}
use Rattle.hls_renewal.proofs.JobListsSince.{same-list, same-resource}
use Rattle.hls_renewal.proofs.PlacesSince.{Rise, none-since, programme-back, programme-on, table-after, table-renditions, table-some}
use Rattle.hls_renewal.proofs.PlansSince.{same_plans}
use Rattle.hls_renewal.proofs.Recorded.{of_lane}
use Rattle.hls_renewal.proofs.RenewedBytes.{held_by, held_of}
use Rattle.hls_renewal.proofs.RenewedLanes.{spot_of_cut, whole_of}
use Rattle.hls_renewal.proofs.RenewedSources.{IsContinued, places_from_cut, renewed, same_lanes, spots_long}

-- ---- tests of lists

-- filtering two lists together is filtering each of them
filter-append : (test : Place → Bool) (xs ys : List Place) → filter test (xs ++ ys) ≡ filter test xs ++ filter test ys
filter-append test [] ys = refl
filter-append test (x ∷ xs) ys = elim (test x) as (λ b. cond b (x ∷ filter test (xs ++ ys)) (filter test (xs ++ ys)) ≡ cond b (x ∷ filter test xs) (filter test xs) ++ filter test ys) [
  | true ↦ ap (λ (zs : List Place). x ∷ zs) (filter-append test xs ys)
  | false ↦ filter-append test xs ys
]

-- a filter keeps the whole list if each element passes
all-pass : (test : Place → Bool) (xs : List Place) → ((k : ℕ) → k < length xs → test (get_or xs k no_place) ≡ true) → filter test xs ≡ xs
all-pass test [] each = refl
all-pass test (x ∷ xs) each =
    cond-true (test x) (x ∷ filter test xs) (filter test xs) (each 0 (omega arith))
    ∙ ap (λ (ys : List Place). x ∷ ys) (all-pass test xs (λ k h. each (suc k) (omega (arith, h))))

-- if all floors are 0, no spot is below its floor
above-none : (above : List ℕ) (spots : List Spot) → ((r : ℕ) → r < length above → get_or above r 0 ≡ 0) → is_kept_above above spots ≡ true
above-none [] spots none = refl
above-none (floor ∷ above) [] none = refl
above-none (floor ∷ above) (spot ∷ spots) none =
    let here : floor ≡ 0 = none 0 (omega arith) in
    and_from (nat_le floor spot.fragment) (is_kept_above above spots) (le-leb floor spot.fragment (omega (arith, here)))
    (above-none above spots (λ r h. none (suc r) (omega (arith, h))))

-- if no rendition has a floor above 0, all places are kept
all-kept : (above : List ℕ) (xs : List Place) → ((r : ℕ) → r < length above → get_or above r 0 ≡ 0) → filter (is_kept above) xs ≡ xs
all-kept above xs none = all-pass (is_kept above) xs (λ k h. above-none above (get_or xs k no_place).spots none)

-- if each lane of one channel is finished exactly if the other's is, all of the one are finished exactly if all of the other are
finished-alike : (xs ys : List Lane) → length ys ≡ length xs → ((r : ℕ) (l m : Lane) → slice_get xs r ≡ Some l → slice_get ys r ≡ Some m → m.finished ≡ l.finished)
    → list_all is_finished ys ≡ list_all is_finished xs
finished-alike [] [] count each = refl
finished-alike [] (y ∷ ys) count each = absurd (omega (arith, count))
finished-alike (x ∷ xs) [] count each = absurd (omega (arith, count))
finished-alike (x ∷ xs) (y ∷ ys) count each =
    ap (λ (b : Bool). b && list_all is_finished ys) (each 0 x y refl refl)
    ∙ ap (λ (b : Bool). x.finished && b) (finished-alike xs ys (omega (arith, count)) (λ r l m at there. each (suc r) l m at there))

-- a spot isn't before itself
from-itself : (spots : List Spot) → AreSpotsFrom spots spots
from-itself [] = tt
from-itself (spot ∷ spots) = (record { fragment = omega arith; outs = omega arith; ins = λ less. absurd (omega (arith, less)) }, from-itself spots)

-- ---- the kept places are some before a kept one, and those from there on

module _ (a : State) (state : IsState a) (k : ℕ) (p : Place) (at : slice_get (places a) k ≡ Some p) (kept : is_kept (floors a) p ≡ true) where
  -- the kept places before place k
  abbrev before : List Place
  before = filter (is_kept (floors a)) (take k (places a))

  -- all kept places
  abbrev old : List Place
  old = kept_places a

  -- place k is one of the common places
  inside : k < length (places a)
  inside = slice_get_within (places a) k p at

  -- no unit of a place from number k on is trimmed
  later-pass : (j : ℕ) → j < length (drop k (places a)) → is_kept (floors a) (get_or (drop k (places a)) j no_place) ≡ true
  later-pass j h =
      let left = length-drop k (places a) in
      let there = slice_get-get_or (places a) (k + j) no_place (omega (arith, h, left)) in
      ap (is_kept (floors a)) (get_or-drop k (places a) j no_place)
      ∙ kept-goes-on a state k (k + j) p (get_or (places a) (k + j) no_place) (omega arith) at there kept

  -- the kept places are those before place k, and all places from there on
  split : old ≡ before ++ drop k (places a)
  split =
      ap (filter (is_kept (floors a))) (sym (take-append-drop k (places a)))
      ∙ filter-append (is_kept (floors a)) (take k (places a)) (drop k (places a))
      ∙ ap (λ (zs : List Place). before ++ zs) (all-pass (is_kept (floors a)) (drop k (places a)) later-pass)

  -- without those before place k, the kept places are all places from there on
  from-there : drop (length before) old ≡ drop k (places a)
  from-there = ap (drop (length before)) split ∙ drop-append_seam before (drop k (places a))

  -- there is a kept place after those before place k
  here : length before < length old
  here =
      let some = inside in
      let left = length-drop (length before) old in
      let most = length-drop k (places a) in
      let same = ap length from-there in
      omega (arith, some, left, most, same)

  -- the kept places are in time order
  in-order : AreOrdered (length (sources a)) old
  in-order = filter-ordered (length (sources a)) (is_kept (floors a)) (places a) (ordered a state)

  -- the kept places have rising times
  rise : Rise old
  rise i j less h = (in-order.pairs i j no_place less h).after.rises

  -- each kept place has as many spots as place k
  counts : (j : ℕ) → j < length old → length (get_or old j no_place).spots ≡ length p.spots
  counts j h = (in-order.each j no_place h).place.count ∙ sym (floors-count a) ∙ sym (spots-count a state k p at)

  -- after the kept places before it, the next kept place is place k
  same-place : get_or old (length before) no_place ≡ p
  same-place =
      let first : length before + 0 ≡ length before = omega arith in
      let none : k + 0 ≡ k = omega arith in
      ap (λ (n : ℕ). get_or old n no_place) (sym first)
      ∙ sym (get_or-drop (length before) old 0 no_place)
      ∙ ap (λ (ps : List Place). get_or ps 0 no_place) from-there
      ∙ get_or-drop k (places a) 0 no_place
      ∙ ap (λ (n : ℕ). get_or (places a) n no_place) none
      ∙ get_or_from_slice_get (places a) k p no_place at

  -- ---- the plans of a programme from there on

  -- no kept place from place k on has a spot before it
  row : AreInRow (places a) → (j : ℕ) → length before ≤ j → j < length old → AreSpotsFrom p.spots (get_or old j no_place).spots
  row in_row j up h =
      let i : ℕ = j - length before in
      let whole : length before + i ≡ j = omega (arith, up) in
      let some = inside in
      let left = length-drop (length before) old in
      let most = length-drop k (places a) in
      let equal = ap length from-there in
      let same : get_or old j no_place ≡ get_or (places a) (k + i) no_place =
      ap (λ (n : ℕ). get_or old n no_place) (sym whole) ∙ sym (get_or-drop (length before) old i no_place)
      ∙ ap (λ (ps : List Place). get_or ps i no_place) from-there ∙ get_or-drop k (places a) i no_place in
      let first : get_or (places a) k no_place ≡ p = get_or_from_slice_get (places a) k p no_place at in
      subst (λ (q : Place). AreSpotsFrom p.spots q.spots) (sym same) (elim (cases_lt 0 i) [
        | inl later ↦
            subst (λ (q : Place). AreSpotsFrom q.spots (get_or (places a) (k + i) no_place).spots) first
            (in_row k (k + i) no_place (omega (arith, later)) (omega (arith, h, whole, some, left, most, equal)))
        | inr none ↦
            let number : k ≡ k + i = omega (arith, none) in
            subst (λ (q : Place). AreSpotsFrom p.spots q.spots) (sym first ∙ ap (λ (n : ℕ). get_or (places a) n no_place) number) (from-itself p.spots)
      ])

  module _ (in_row : AreInRow (places a)) (goal : Goal) (start stop : ℕ) (t : Table) (from : time_of p ≤ start) (order : start < stop)
      (is : IsProgrammeTable goal old start stop t) where
    -- place k is at or before the programme's start
    begins-late : time_of (get_or old (length before) no_place) ≤ start
    begins-late = let same = ap time_of same-place in omega (arith, from, same)

    -- the programme's table has as many renditions as place k has spots
    all-counts : t.renditions ≡ length p.spots
    all-counts = table-renditions p.spots old (length before) rise here counts start begins-late stop order goal t is

    -- the programme's table has a rendition
    has-renditions : 0 < t.renditions
    has-renditions =
        let count = all-counts in
        let some = (states_are_timed a state).some in
        let long = spots-count a state k p at in
        omega (arith, count, some, long, floors-count a)

    -- the programme's table has a place
    has-places : 0 < length t.places
    has-places = table-some p.spots old (length before) rise here counts start begins-late stop order goal t is

    -- no spot of the programme's table is before place k
    all-after : (q : ℕ) → q < length t.places → AreSpotsFrom p.spots (place_at t.places q)
    all-after = table-after p.spots old (length before) rise here counts start begins-late stop order (row in_row) goal t is

    -- the programme's table has the same plans when its spots are counted from place k
    plans-stay : HasSamePlans t (table_since p.spots t)
    plans-stay = same_plans p.spots t has-renditions all-counts all-after

  -- ---- and a channel whose places are those from there on has the same programmes

  module _ (b : State) (is : places b ≡ map (place_since p.spots) (drop k (places a))) (none : (r : ℕ) → r < length (floors b) → get_or (floors b) r 0 ≡ 0)
      (over : list_all is_finished (channel b).lanes ≡ list_all is_finished (channel a).lanes) where
    -- all places of the second channel are kept: the first channel's from place k on, counted from there
    kept-since : kept_places b ≡ map (place_since p.spots) (drop (length before) old)
    kept-since = all-kept (floors b) (places b) none ∙ is ∙ ap (map (place_since p.spots)) (sym from-there)

    module _ (goal : Goal) (start stop : ℕ) (from : time_of p ≤ start) (order : start < stop) where
      -- place k is at or before the programme's start
      late : time_of (get_or old (length before) no_place) ≤ start
      late = let same = ap time_of same-place in omega (arith, from, same)

      -- a programme of the first channel, counted from place k, is one of the second channel
      on : (found : Result Table ProgrammeFault) → IsProgrammeOf a goal start stop found → IsProgrammeOf b goal start stop (programme_since p.spots found)
      on found is =
          let finished : Bool = list_all is_finished (channel a).lanes in
          subst (λ (ps : List Place). IsProgramme goal ps (list_all is_finished (channel b).lanes) start stop (programme_since p.spots found)) (sym kept-since)
          (subst (λ (b : Bool). IsProgramme goal (map (place_since p.spots) (drop (length before) old)) b start stop (programme_since p.spots found)) (sym over)
          (programme-on p.spots old (length before) rise here counts start late stop order goal finished found is))

      -- each programme of the second channel is one of the first, counted from place k
      back : (found : Result Table ProgrammeFault) → IsProgrammeOf b goal start stop found
          → (earlier : Result Table ProgrammeFault) × IsProgrammeOf a goal start stop earlier × (found ≡ programme_since p.spots earlier)
      back found is =
          let finished : Bool = list_all is_finished (channel a).lanes in
          programme-back p.spots old (length before) rise here counts start late stop order goal finished found
          (subst (λ (b : Bool). IsProgramme goal (map (place_since p.spots) (drop (length before) old)) b start stop found) over
          (subst (λ (ps : List Place). IsProgramme goal ps (list_all is_finished (channel b).lanes) start stop found) kept-since is))

    -- the second channel refuses a programme that begins before place k as before the recording
    refused : (goal : Goal) (start stop : ℕ) → start < time_of p → IsProgrammeOf b goal start stop (Err BeforeRecording)
    refused goal start stop early =
        let same = ap time_of same-place in
        subst (λ (ps : List Place). NoPlaceBy ps start) (sym kept-since)
        (none-since p.spots old (length before) rise here counts start (omega (arith, early, same)))

-- ---- a renewed channel

-- no unit of a channel that continues another one at a cut is trimmed
no_floors : (a b : State) (cut : LineCut) → IsContinued a b cut → IsState a → (r : ℕ) → r < length (floors b) → get_or (floors b) r 0 ≡ 0
no_floors a b cut on state r h =
    let within : r < length (channel b).lanes = omega (arith, h, length-map (channel b).lanes floor_of) in
    let m = some_at (channel b).lanes r within in
    let l = some_at (channel a).lanes r (omega (arith, within, same_lanes a b cut on state)) in
    get_or_from_slice_get (floors b) r (m.0).floor 0 (at_map floor_of (channel b).lanes r m.0 m.1) ∙ (on.lanes r l.0 m.0 l.1 m.1).floor

-- all renditions of such a channel are finished exactly if all of the other one are
over_alike : (a b : State) (cut : LineCut) → IsContinued a b cut → IsState a → list_all is_finished (channel b).lanes ≡ list_all is_finished (channel a).lanes
over_alike a b cut on state = finished-alike (channel a).lanes (channel b).lanes (same_lanes a b cut on state) (λ r l m at there. (on.lanes r l m at there).finished)

-- a renewed channel keeps the recorded rendition's init section and its units from the cut on
held_alike : (a b : State) (renews : Renews a b) → IsState a → (r : ℕ) (l m : Lane) (x : RecordingData) → slice_get (channel a).lanes r ≡ Some l
    → slice_get (channel b).lanes r ≡ Some m → recording_of a r ≡ Some x → held_bytes b r ≡ held_by (Some x) (cut_unit (renews.cut).place r)
held_alike a b renews state r l m x at there found =
    let count = (renewed_state a b renews state).counts_agree in
    let g = some_at b.bytes r (omega (arith, count, slice_get_within (channel b).lanes r m there)) in
    at_or b.bytes r no_bytes g.0 g.1 ∙ held_of a b renews state r l g.0 at g.1 ∙ ap (λ (o : Option RecordingData). held_by o (cut_unit (renews.cut).place r)) found

module _ (from_place : PlacesFromAPlaceAgree) (in_row : PlacesNeverGoBack) (from_cut : LineFromCutAgrees) where
  -- a programme that begins at the cut or later has the same table as in the old channel, counted from the cut, or the same refusal
  pub programmes_agree : RenewedProgrammesAgree
  programmes_agree a b renews state goal start stop from order =
      let cut = renews.cut in
      let continued = renewed a b renews state in
      let here = places_from_cut a b cut continued state from_place in_row from_cut in
      let none = no_floors a b cut continued state in
      let over = over_alike a b cut continued state in
      record {
        same = on a state here.0 cut.place here.1 (continued.is_cut).kept b here.2 none over goal start stop from order;
        no_other = back a state here.0 cut.place here.1 (continued.is_cut).kept b here.2 none over goal start stop from order;
      }

  -- the table of such a programme has the same plans as in the old channel, at the same costs
  pub plans_agree : RenewedPlansAgree
  plans_agree a b renews state goal start stop t from order is =
      let cut = renews.cut in
      let continued = renewed a b renews state in
      let here = places_from_cut a b cut continued state from_place in_row from_cut in
      plans-stay a state here.0 cut.place here.1 (continued.is_cut).kept (in_row (sources a) (states_are_timed a state)) goal start stop t from order is

  -- in each rendition a plan of such a programme has the same playlist and the same bytes as in the old channel
  pub lists_agree : RenewedCatchUpListsAreEqual
  lists_agree a b renews state goal start stop t from order is plan is_plan r x y found also =
      let cut = renews.cut in
      let continued = renewed a b renews state in
      let here = places_from_cut a b cut continued state from_place in_row from_cut in
      let rising = in_row (sources a) (states_are_timed a state) in
      let some = has-renditions a state here.0 cut.place here.1 (continued.is_cut).kept rising goal start stop t from order is in
      let count = all-counts a state here.0 cut.place here.1 (continued.is_cut).kept rising goal start stop t from order is in
      let after = all-after a state here.0 cut.place here.1 (continued.is_cut).kept rising goal start stop t from order is in
      let has = has-places a state here.0 cut.place here.1 (continued.is_cut).kept rising goal start stop t from order is in
      let old = of_lane a r x found in
      let new = of_lane b r y also in
      let whole_x = whole_of a r old.its x state old.at found in
      let whole_y = whole_of b r new.its y (renewed_state a b renews state) new.at also in
      let lane = continued.lanes r old.its new.its old.at new.at in
      let n = cut_unit cut.place r in
      let within : r < t.renditions =
      omega (arith, count, spots_long a b cut continued state, sources_count a, slice_get_within (channel a).lanes r old.its old.at) in
      let head : length y.head ≡ length x.head = sym whole_y.size ∙ lane.size ∙ whole_x.size in
      let facts : y.facts ≡ drop n x.facts = whole_y.facts ∙ lane.facts ∙ ap (λ (fs : List Facts). drop n fs) (sym whole_x.facts) in
      let held = held_alike a b renews state r old.its new.its x old.at new.at found in
      let low = (spot_of_cut a cut r old.its state continued.is_cut old.at).1.low in
      let epoch : b.config.epoch ≡ a.config.epoch = ap (λ (c : ConfigData). c.epoch) continued.config in
      record {
        list =
            ap (λ (e : Option ℤ). job_list e y r (table_since (cut.place).spots t) plan) epoch
            ∙ same-list (cut.place).spots t some count after r within x y head facts a.config.epoch plan is_plan;
        resource =
            same-resource (cut.place).spots t some count after r within x y head facts a.config.epoch has (omega (arith, low, whole_x.floor))
            (whole_y.floor ∙ lane.floor) (new.head ∙ ap (λ (h : HeldBytes). h.head) held) (whole_y.units ∙ ap (λ (h : HeldBytes). h.units) held);
      }

  -- a programme that begins before the cut is refused as before the recording
  pub earlier_refused : EarlierProgrammesAreRefused
  earlier_refused a b renews state goal start stop early =
      let cut = renews.cut in
      let continued = renewed a b renews state in
      let here = places_from_cut a b cut continued state from_place in_row from_cut in
      refused a state here.0 cut.place here.1 (continued.is_cut).kept b here.2 (no_floors a b cut continued state) (over_alike a b cut continued state) goal start stop early
