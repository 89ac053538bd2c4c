-- The programme of the places from a cut on, counted from the cut, is that of a list in which earlier places precede them.
use Rattle.std.proofs.Common.{◌≡◌, ◌∙◌, ℕ, suc, ◌+◌, ◌-◌, ◌<◌, ◌≤◌, Bool, List, [], ◌∷◌, length, map, take, drop, get_or, Ok, Err, arith, refl, sym, ap, subst, inl, inr}
use Rattle.std.specs.Prelude.{Result}
use Rattle.std.specs.List.{slice_range}
use Rattle.std.proofs.lemmas.Bool.{cases_lt}
use Rattle.std.proofs.lemmas.List.{drop-drop, drop-map, get_or-drop, get_or-map, get_or-take, length-drop, length-map, length-take, take-map}
use Rattle.hls_check_tables.specs.declared.goal.Goal.{Goal}
use Rattle.hls_check_tables.specs.declared.spot.Spot.{Spot}
use Rattle.hls_check_tables.specs.Tables.{Table, place_at, spot_in, table_of}
use Rattle.hls_places_laws.specs.declared.place.Place.{Place}
use Rattle.hls_places_laws.specs.declared.fault.ProgrammeFault.{ProgrammeFault}
use Rattle.hls_places_laws.specs.declared.fault.ProgrammeFault.TheVariants.{AfterRecording, BeforeRecording, Memory, NotYet, ProgrammeTooLong}
use Rattle.hls_places_laws.specs.FromPlace.{AreSpotsFrom, place_since, spots_since}
use Rattle.hls_places_laws.specs.Order.{no_place, renditions_in, spots_of, time_of}
use Rattle.hls_places_laws.specs.Programmes.{IsFirstPlaceFrom, IsLastPlaceBy, IsProgramme, IsProgrammeTable, NoPlaceBy, NoPlaceFrom, StopsLate, table_between}
use Rattle.hls_places_laws.proofs.Callers.{table-place}
use Rattle.hls_renewal.specs.Programmes.{programme_since, table_since}

-- ---- a place, counted from a cut

-- a place that is counted from a cut starts at the same time in rendition 0
time-since : (cut spots : List Spot) → length spots ≡ length cut → (spot_in (spots_since cut spots) 0).start ≡ (spot_in spots 0).start
time-since [] [] count = refl
time-since [] (spot ∷ spots) count = absurd (omega (arith, count))
time-since (c ∷ cut) [] count = absurd (omega (arith, count))
time-since (c ∷ cut) (spot ∷ spots) count = refl

-- spots that are counted from a cut are as many as the cut's
count-since : (cut spots : List Spot) → length spots ≡ length cut → length (spots_since cut spots) ≡ length cut
count-since [] [] count = refl
count-since [] (spot ∷ spots) count = absurd (omega (arith, count))
count-since (c ∷ cut) [] count = absurd (omega (arith, count))
count-since (c ∷ cut) (spot ∷ spots) count = ap suc (count-since cut spots (omega (arith, count)))

-- the spots of places that are counted from a cut are those of the places, counted from the cut
spots-mapped : (cut : List Spot) (places : List Place) → spots_of (map (place_since cut) places) ≡ map (spots_since cut) (spots_of places)
spots-mapped cut [] = refl
spots-mapped cut (p ∷ places) = ap (λ (rest : List (List Spot)). spots_since cut p.spots ∷ rest) (spots-mapped cut places)

-- ---- places in time order, each with a spot for each rendition

-- place k of a list
abbrev nth : List Place → ℕ → Place
nth places k = get_or places k no_place

-- the places of a list have rising times
abbrev pub Rise : List Place → Type 0
Rise places = (i j : ℕ) → i < j → j < length places → time_of (nth places i) < time_of (nth places j)

-- in a list with rising times a place is at or after each earlier one
rises-on : (places : List Place) → Rise places → (i j : ℕ) → i ≤ j → j < length places → time_of (nth places i) ≤ time_of (nth places j)
rises-on places rise i j up h = elim (cases_lt i j) [
  | inl less ↦ (let rises = rise i j less h in omega (arith, rises))
  | inr more ↦ (let same : i ≡ j = omega (arith, up, more) in let equal = ap (λ (k : ℕ). time_of (nth places k)) same in omega (arith, equal))
]

-- ---- a list of places, and those from number m on

module _ (cut : List Spot) (xs : List Place) (m : ℕ) (rise : Rise xs) (here : m < length xs)
    (counts : (k : ℕ) → k < length xs → length (nth xs k).spots ≡ length cut) where
  -- the places from number m on, counted from the cut
  abbrev since : List Place
  since = map (place_since cut) (drop m xs)

  -- there are as many counted places as places from number m on
  long : length since ≡ length xs - m
  long = length-map (drop m xs) (place_since cut) ∙ length-drop m xs

  -- the counted place k is place m + k, counted from the cut
  at : (k : ℕ) → m + k < length xs → nth since k ≡ place_since cut (nth xs (m + k))
  at k h =
      let left = length-drop m xs in
      get_or-map (place_since cut) (drop m xs) k no_place no_place (omega (arith, h, left)) ∙ ap (place_since cut) (get_or-drop m xs k no_place)

  -- the counted place k has the time of place m + k
  time-at : (k : ℕ) → m + k < length xs → time_of (nth since k) ≡ time_of (nth xs (m + k))
  time-at k h = ap time_of (at k h) ∙ time-since cut (nth xs (m + k)).spots (counts (m + k) h)

  -- both lists have places of the same number of renditions
  renditions : renditions_in since ≡ renditions_in xs
  renditions =
      let none : m + 0 ≡ m = omega arith in
      ap length (table-place since 0)
      ∙ ap (λ (p : Place). length p.spots) (at 0 (omega (arith, here, none)))
      ∙ count-since cut (nth xs (m + 0)).spots (counts (m + 0) (omega (arith, here, none)))
      ∙ sym (counts 0 (omega (arith, here)))
      ∙ sym (ap length (table-place xs 0))

  -- a range of the counted places is the range of the list that begins m places later, counted from the cut
  range : (s e : ℕ) → slice_range since s (e + 1) ≡ map (place_since cut) (slice_range xs (m + s) (m + e + 1))
  range s e =
      let count : e + 1 - s ≡ m + e + 1 - (m + s) = omega arith in
      ap (take (e + 1 - s)) (drop-map (place_since cut) s (drop m xs) ∙ ap (map (place_since cut)) (drop-drop s m xs))
      ∙ take-map (place_since cut) (e + 1 - s) (drop (m + s) xs)
      ∙ ap (λ (n : ℕ). map (place_since cut) (take n (drop (m + s) xs))) count

  -- a table of the counted places is the table of the list m places later, counted from the cut
  table : (goal : Goal) (s e : ℕ) → table_between goal since s e ≡ table_since cut (table_between goal xs (m + s) (m + e))
  table goal s e =
      let mapped = ap spots_of (range s e) ∙ spots-mapped cut (slice_range xs (m + s) (m + e + 1)) in
      ap (λ (n : ℕ). table_of goal n (spots_of (slice_range since s (e + 1)))) renditions ∙ ap (table_of goal (renditions_in xs)) mapped

  -- a start at that place or later
  module _ (start : ℕ) (from : time_of (nth xs m) ≤ start) where
    -- if place m + s is the last one by the start, the counted place s is
    begins : (s : ℕ) → IsLastPlaceBy xs start (m + s) → IsLastPlaceBy since start s
    begins s is =
        let there = is.there in
        let count = long in
        record {
          there = omega (arith, there, count);
          by = (let by = is.by in let same = time-at s there in omega (arith, by, same));
          last = λ later after within.
              let inside : m + later < length xs = omega (arith, within, count) in
              let last = is.last (m + later) (omega (arith, after)) inside in
              let same = time-at later inside in
              omega (arith, last, same);
        }

    -- if the counted place s is the last one by the start, place m + s is
    began : (s : ℕ) → IsLastPlaceBy since start s → IsLastPlaceBy xs start (m + s)
    began s is =
        let there = is.there in
        let count = long in
        let inside : m + s < length xs = omega (arith, there, count) in
        record {
          there = inside;
          by = (let by = is.by in let same = time-at s inside in omega (arith, by, same));
          last = λ later after within.
              let whole : m + (later - m) ≡ later = omega (arith, after) in
              let last = is.last (later - m) (omega (arith, after)) (omega (arith, after, within, count)) in
              let same = time-at (later - m) (omega (arith, whole, within)) in
              let equal = ap (λ (k : ℕ). time_of (nth xs k)) whole in
              omega (arith, last, same, equal);
        }

    -- the last place by the start is place m or a later one
    begins-late : (s : ℕ) → IsLastPlaceBy xs start s → m ≤ s
    begins-late s is = elim (cases_lt s m) [
      | inl less ↦ (let after = is.last m less here in absurd (omega (arith, after, from)))
      | inr up ↦ up
    ]

    -- the list has a place at or before the start
    one-by : NoPlaceBy xs start → ⊥
    one-by none = let after = none m here in omega (arith, after, from)

    -- the counted places have one at or before the start
    one-since : NoPlaceBy since start → ⊥
    one-since none =
        let count = long in
        let first : m + 0 ≡ m = omega arith in
        let after = none 0 (omega (arith, here, count)) in
        let same = time-at 0 (omega (arith, here, first)) in
        let equal = ap (λ (k : ℕ). time_of (nth xs k)) first in
        omega (arith, after, from, same, equal)

    module _ (stop : ℕ) (order : start < stop) where
      -- place m and each earlier one are before the stop
      early : (k : ℕ) → k ≤ m → time_of (nth xs k) < stop
      early k up = let on = rises-on xs rise k m up here in omega (arith, on, from, order)

      -- if place m + e is the first one from the stop on, the counted place e is
      ends : (e : ℕ) → IsFirstPlaceFrom xs stop (m + e) → IsFirstPlaceFrom since stop e
      ends e is =
          let there = is.there in
          let count = long in
          record {
            there = omega (arith, there, count);
            from = (let late = is.from in let same = time-at e there in omega (arith, late, same));
            first = λ earlier before.
                let first = is.first (m + earlier) (omega (arith, before)) in
                let same = time-at earlier (omega (arith, before, there)) in
                omega (arith, first, same);
          }

      -- if the counted place e is the first one from the stop on, place m + e is
      ended : (e : ℕ) → IsFirstPlaceFrom since stop e → IsFirstPlaceFrom xs stop (m + e)
      ended e is =
          let there = is.there in
          let count = long in
          let inside : m + e < length xs = omega (arith, there, count) in
          record {
            there = inside;
            from = (let late = is.from in let same = time-at e inside in omega (arith, late, same));
            first = λ earlier before. elim (cases_lt earlier m) [
              | inl less ↦ early earlier (omega (arith, less))
              | inr up ↦ (
                  let whole : m + (earlier - m) ≡ earlier = omega (arith, up) in
                  let first = is.first (earlier - m) (omega (arith, before, up)) in
                  let same = time-at (earlier - m) (omega (arith, whole, before, inside)) in
                  let equal = ap (λ (k : ℕ). time_of (nth xs k)) whole in
                  omega (arith, first, same, equal)
                  )
            ];
          }

      -- the first place from the stop on is place m or a later one
      ends-late : (e : ℕ) → IsFirstPlaceFrom xs stop e → m ≤ e
      ends-late e is = elim (cases_lt e m) [
        | inl less ↦ (let late = is.from in let on = early e (omega (arith, less)) in absurd (omega (arith, late, on)))
        | inr up ↦ up
      ]

      -- the table of a programme of the list, counted from the cut, is that of the counted places
      table-on : (goal : Goal) (t : Table) → IsProgrammeTable goal xs start stop t → IsProgrammeTable goal since start stop (table_since cut t)
      table-on goal t is =
          let up = begins-late is.s is.begins in
          let high = ends-late is.e is.ends in
          let s : m + (is.s - m) ≡ is.s = omega (arith, up) in
          let e : m + (is.e - m) ≡ is.e = omega (arith, high) in
          record {
            s = is.s - m;
            e = is.e - m;
            begins = begins (is.s - m) (subst (IsLastPlaceBy xs start) (sym s) is.begins);
            ends = ends (is.e - m) (subst (IsFirstPlaceFrom xs stop) (sym e) is.ends);
            is = ap (table_since cut) (is.is ∙ ap (λ (k : ℕ). table_between goal xs k is.e) (sym s) ∙ ap (λ (k : ℕ). table_between goal xs (m + (is.s - m)) k) (sym e))
                ∙ sym (table goal (is.s - m) (is.e - m));
          }

      -- each table of a programme of the counted places is one of the list, counted from the cut
      table-back : (goal : Goal) (t : Table) → IsProgrammeTable goal since start stop t → (old : Table) × IsProgrammeTable goal xs start stop old × (t ≡ table_since cut old)
      table-back goal t is = (
        table_between goal xs (m + is.s) (m + is.e),
        record {
          s = m + is.s;
          e = m + is.e;
          begins = began is.s is.begins;
          ends = ended is.e is.ends;
          is = refl;
        },
        is.is ∙ table goal is.s is.e,
      )

      -- each of its places is that place or a later one
      pub table-after : ((j : ℕ) → m ≤ j → j < length xs → AreSpotsFrom cut (nth xs j).spots) → (goal : Goal) (t : Table) → IsProgrammeTable goal xs start stop t
          → (p : ℕ) → p < length t.places → AreSpotsFrom cut (place_at t.places p)
      table-after row goal t is p h =
          let up = begins-late is.s is.begins in
          let part : List Place = slice_range xs is.s (is.e + 1) in
          let places = ap (λ (u : Table). u.places) is.is in
          let taken = length-take (is.e + 1 - is.s) (drop is.s xs) in
          let left = length-drop is.s xs in
          let inside : p < length part = omega (arith, h, ap length places, length-map part (λ (q : Place). q.spots)) in
          let same : place_at t.places p ≡ (nth xs (is.s + p)).spots =
          ap (λ (l : List (List Spot)). place_at l p) places ∙ table-place part p
          ∙ ap (λ (q : Place). q.spots) (get_or-take (is.e + 1 - is.s) (drop is.s xs) p no_place (omega (arith, inside, taken)) ∙ get_or-drop is.s xs p no_place) in
          subst (AreSpotsFrom cut) (sym same) (row (is.s + p) (omega (arith, up)) (omega (arith, inside, taken, left)))

      -- the table of a programme has a place
      pub table-some : (goal : Goal) (t : Table) → IsProgrammeTable goal xs start stop t → 0 < length t.places
      table-some goal t is =
          let part : List Place = slice_range xs is.s (is.e + 1) in
          let by = is.begins.by in
          let stops = is.ends.from in
          let inside = is.begins.there in
          let up : is.s ≤ is.e = elim (cases_lt is.e is.s) [
            | inl less ↦ (let rises = rise is.e is.s less inside in absurd (omega (arith, rises, by, stops, order)))
            | inr up ↦ up
          ] in
          let taken = length-take (is.e + 1 - is.s) (drop is.s xs) in
          let left = length-drop is.s xs in
          omega (arith, up, inside, taken, left, ap (λ (u : Table). length u.places) is.is, length-map part (λ (q : Place). q.spots))

      -- the table of a programme has as many renditions as the cut has spots
      pub table-renditions : (goal : Goal) (t : Table) → IsProgrammeTable goal xs start stop t → t.renditions ≡ length cut
      table-renditions goal t is = ap (λ (u : Table). u.renditions) is.is ∙ ap length (table-place xs 0) ∙ counts 0 (omega (arith, here))

      -- if the stop is after the last place of the list, it is after the last counted place
      late-on : NoPlaceFrom xs stop → NoPlaceFrom since stop
      late-on late k h =
          let count = long in
          let inside : m + k < length xs = omega (arith, h, count) in
          let before = late (m + k) inside in
          let same = time-at k inside in
          omega (arith, before, same)

      -- if the stop is after the last counted place, it is after the last place of the list
      late-back : NoPlaceFrom since stop → NoPlaceFrom xs stop
      late-back late k h = elim (cases_lt k m) [
        | inl less ↦ early k (omega (arith, less))
        | inr up ↦ (
            let count = long in
            let whole : m + (k - m) ≡ k = omega (arith, up) in
            let before = late (k - m) (omega (arith, h, up, count)) in
            let same = time-at (k - m) (omega (arith, whole, h)) in
            let equal = ap (λ (n : ℕ). time_of (nth xs n)) whole in
            omega (arith, before, same, equal)
            )
      ]

      -- if the programme of the list stops after its last place, so does that of the counted places
      stops-on : StopsLate xs start stop → StopsLate since start stop
      stops-on is = record { begins = one-since; late = late-on is.late }

      -- if the programme of the counted places stops after their last one, so does that of the list
      stops-back : StopsLate since start stop → StopsLate xs start stop
      stops-back is = record { begins = one-by; late = late-back is.late }

      -- counting from a cut leaves the number of a table's places
      same-long : (t : Table) → length (table_since cut t).places ≡ length t.places
      same-long t = length-map t.places (spots_since cut)

      -- the programme of the whole list, counted from the place, is that of the list from there on
      pub programme-on : (goal : Goal) (finished : Bool) (found : Result Table ProgrammeFault) → IsProgramme goal xs finished start stop found
          → IsProgramme goal since finished start stop (programme_since cut found)
      programme-on goal finished (Err BeforeRecording) is = absurd (one-by is)
      programme-on goal finished (Err NotYet) is = (stops-on is.0, is.1)
      programme-on goal finished (Err AfterRecording) is = (stops-on is.0, is.1)
      programme-on goal finished (Err ProgrammeTooLong) is = let long = is.2 in (table_since cut is.0, table-on goal is.0 is.1, omega (arith, long, same-long is.0))
      programme-on goal finished (Err Memory) is = let few = is.2 in (table_since cut is.0, table-on goal is.0 is.1, omega (arith, few, same-long is.0))
      programme-on goal finished (Ok t) is = let few = is.1 in (table-on goal t is.0, omega (arith, few, same-long t))

      -- a table that is counted from a cut has as many places as the table that it is made of
      old-long : (t old : Table) → t ≡ table_since cut old → length t.places ≡ length old.places
      old-long t old is = ap (λ (u : Table). length u.places) is ∙ same-long old

      -- each programme of the list from there on is that of the whole list, counted from the place
      pub programme-back : (goal : Goal) (finished : Bool) (found : Result Table ProgrammeFault) → IsProgramme goal since finished start stop found
          → (old : Result Table ProgrammeFault) × IsProgramme goal xs finished start stop old × (found ≡ programme_since cut old)
      programme-back goal finished (Err BeforeRecording) is = absurd (one-since is)
      programme-back goal finished (Err NotYet) is = (Err NotYet, (stops-back is.0, is.1), refl)
      programme-back goal finished (Err AfterRecording) is = (Err AfterRecording, (stops-back is.0, is.1), refl)
      programme-back goal finished (Err ProgrammeTooLong) is =
          let back = table-back goal is.0 is.1 in
          let long = is.2 in
          (Err ProgrammeTooLong, (back.0, back.1, omega (arith, long, old-long is.0 back.0 back.2)), refl)
      programme-back goal finished (Err Memory) is =
          let back = table-back goal is.0 is.1 in
          let few = is.2 in
          (Err Memory, (back.0, back.1, omega (arith, few, old-long is.0 back.0 back.2)), refl)
      programme-back goal finished (Ok t) is =
          let back = table-back goal t is.0 in
          let few = is.1 in
          (Ok back.0, (back.1, omega (arith, few, old-long t back.0 back.2)), ap Ok back.2)

  -- the list from there on has no place at or before an earlier time
  pub none-since : (start : ℕ) → start < time_of (nth xs m) → NoPlaceBy since start
  none-since start before k h =
      let count = long in
      let inside : m + k < length xs = omega (arith, h, count) in
      let same = time-at k inside in
      let on = rises-on xs rise m (m + k) (omega arith) inside in
      omega (arith, before, same, on)
