-- A programme that is decided stays as it is, as long as its first place is kept.
use Rattle.std.proofs.Common.{◌≡◌, ◌∙◌, ℕ, zero, suc, ◌+◌, ◌-◌, ◌*◌, ◌<◌, ◌≤◌, Bool, true, false, List, [], ◌∷◌, ◌++◌, Some, Ok, length, take, drop, get_or, arith, refl, sym, ap, subst, inl, inr, length-append}
use Rattle.std.specs.Prelude.{slice_get}
use Rattle.std.specs.List.{filter, slice_range}
use Rattle.std.proofs.lemmas.Bool.{cases_Bool, cases_lt, cond-true, cond-false}
use Rattle.std.proofs.lemmas.List.{drop-append-le, drop-drop, get_or-drop, get_or-take, get_or_append_left, length-drop, take-append-le}
use Rattle.std.proofs.lemmas.Option.{slice_get-get_or}
use Rattle.hls_check_tables.specs.declared.goal.Goal.{Goal}
use Rattle.hls_check_tables.specs.Tables.{Table, goal_of, place_at, table_of}
use Rattle.hls_places_laws.specs.declared.place.Place.{Place}
use Rattle.hls_places_laws.specs.Order.{no_place, renditions_in, spots_of, time_of}
use Rattle.hls_places_laws.specs.Programmes.{IsFirstPlaceFrom, IsLastPlaceBy, IsProgrammeTable, is_kept, is_kept_above}
use Rattle.hls_places_laws.proofs.Callers.{table-place}
use Rattle.hls_core_laws.specs.Config.{ConfigData}
use Rattle.hls_core_laws.specs.State.{State}
use Rattle.hls_core_laws.specs.IsState.{IsState}
use Rattle.hls_core_laws.specs.Follows.{FollowsAsState}
use Rattle.hls_core_laws.specs.Places.{floors, kept_places, places}
use Rattle.hls_core_laws.proofs.Callers.{floors-count, kept-goes-on, lanes_count, places_follow, sources_count, spots-count, times-rise}
use Rattle.hls_catchup.specs.declared.request.Request.{Request}
use Rattle.hls_catchup.specs.Requests.{HasTableOrFault, IsTableFor, goal_for}
use Rattle.hls_jobs.specs.ProgrammeLaws.{KeepsProgramme, ProgrammesStay}

-- ---- the elements of a list that pass a test are its last

-- place k of a list
abbrev nth : List Place → ℕ → Place
nth xs k = get_or xs k no_place

-- each place after one that passes a test passes it, too
abbrev pub Lasts : (Place → Bool) → List Place → Type 0
Lasts test xs = (i j : ℕ) → i ≤ j → j < length xs → test (nth xs i) ≡ true → test (nth xs j) ≡ true

-- the places that pass a test are those from number n on, and none before passes
pub record IsBack (test : Place → Bool) (xs : List Place) (n : ℕ) : Type 0 where
  pub within : n ≤ length xs
  pub is : filter test xs ≡ drop n xs
  -- the first place of the programme precedes the last one
  pub before : (k : ℕ) → k < n → test (nth xs k) ≡ false

-- if each place passes a test, filtering by it changes nothing
all-pass : (test : Place → Bool) (xs : List Place) → ((k : ℕ) → k < length xs → test (nth xs k) ≡ true) → filter test xs ≡ xs
all-pass test [] each = refl
all-pass test (x ∷ xs) each =
    cond-true (test x) (x ∷ filter test xs) (filter test xs) (each 0 (omega arith))
    ∙ ap (λ (ys : List Place). x ∷ ys) (all-pass test xs (λ k h. each (suc k) (omega (arith, h))))

-- if a place fails a test and so do the first n after it, the first n + 1 fail
next-fails : (test : Place → Bool) (x : Place) (xs : List Place) (n : ℕ) → test x ≡ false → ((k : ℕ) → k < n → test (nth xs k) ≡ false) →
    (k : ℕ) → k < suc n → test (nth (x ∷ xs) k) ≡ false
next-fails test x xs n fails before zero h = fails
next-fails test x xs n fails before (suc k) h = before k (omega (arith, h))

-- if each place after one that passes does, the places that pass are those from some number on
back : (test : Place → Bool) (xs : List Place) → Lasts test xs → (n : ℕ) × IsBack test xs n
back test [] lasts = (0, record { within = omega arith; is = refl; before = λ k h. absurd (omega (arith, h)) })
back test (x ∷ xs) lasts = elim (cases_Bool (test x)) [
  | inl passes ↦ (
    0,
    record {
      within = omega arith;
      is = all-pass test (x ∷ xs) (λ k h. lasts 0 k (omega arith) h passes);
      before = λ k h. absurd (omega (arith, h));
    },
  )
  | inr fails ↦ (
      let others = back test xs (λ i j up h is. lasts (suc i) (suc j) (omega (arith, up)) (omega (arith, h)) is) in (
        suc others.0,
        record {
          within = omega (arith, others.1.within);
          is = cond-false (test x) (x ∷ filter test xs) (filter test xs) fails ∙ others.1.is;
          before = next-fails test x xs others.0 fails others.1.before;
        },
      )
      )
]

-- ---- lists of places that are longer and longer

-- times increase
abbrev Rise : List Place → Type 0
Rise xs = (i j : ℕ) → i < j → j < length xs → time_of (nth xs i) < time_of (nth xs j)

-- if times increase along places, an earlier place's time is at most a later one's
rises-on : (xs : List Place) → Rise xs → (i j : ℕ) → i ≤ j → j < length xs → time_of (nth xs i) ≤ time_of (nth xs j)
rises-on xs rise i j up h = elim (cases_lt i j) [
  | inl less ↦ (let r = rise i j less h in omega (arith, r))
  | inr more ↦ (let same : i ≡ j = omega (arith, up, more) in let equal = ap (λ (k : ℕ). time_of (nth xs k)) same in omega (arith, equal))
]

-- the earlier list, and the one after it from which the first are gone
module _ (xs more : List Place) (m n : ℕ) (rise : Rise (xs ++ more)) where
  abbrev all : List Place
  all = xs ++ more

  -- a place of the back of the earlier list, in the later one
  early-at : (k : ℕ) → k < length (drop m xs) → nth (drop m xs) k ≡ nth all (m + k)
  early-at k h =
      let long = length-drop m xs in
      get_or-drop m xs k no_place ∙ sym (get_or_append_left xs more no_place (m + k) (omega (arith, h, long)))

  late-at : (k : ℕ) → nth (drop n all) k ≡ nth all (n + k)
  late-at k = get_or-drop n all k no_place

  module _ (goal : Goal) (start stop : ℕ) (order : start < stop) (t : Table) (is : IsProgrammeTable goal (drop m xs) start stop t) where
    abbrev s : ℕ
    s = is.s

    abbrev e : ℕ
    e = is.e

    long : length (drop m xs) ≡ length xs - m
    long = length-drop m xs

    longer : length (drop n all) ≡ length xs + length more - n
    longer = length-drop n all ∙ ap (λ (k : ℕ). k - n) (length-append xs more)

    whole : length all ≡ length xs + length more
    whole = length-append xs more

    -- the first place of the programme is at its start or before it
    time-s : time_of (nth all (m + s)) ≤ start
    time-s = let by = is.begins.by in omega (arith, by, ap time_of (early-at s is.begins.there))

    -- the last place of the programme is at its stop or after it
    time-e : stop ≤ time_of (nth all (m + e))
    time-e = let from = is.ends.from in omega (arith, from, ap time_of (early-at e is.ends.there))

    before : s < e
    before = elim (cases_lt s e) [
      | inl less ↦ less
      | inr up ↦ (
          let there = is.begins.there in
          let on = rises-on all rise (m + e) (m + s) (omega (arith, up)) (omega (arith, there, long, whole)) in
          let a = time-s in
          let b = time-e in
          absurd (omega (arith, on, a, b, order))
          )
    ]

    -- the first place of the table
    pub first-place : place_at t.places 0 ≡ (nth all (m + s)).spots
    first-place =
        let less = before in
        ap (λ (u : Table). place_at u.places 0) is.is
        ∙ table-place (slice_range (drop m xs) s (e + 1)) 0
        ∙ ap (λ (p : Place). p.spots)
        (get_or-take (e + 1 - s) (drop s (drop m xs)) 0 no_place (omega (arith, less))
        ∙ get_or-drop s (drop m xs) 0 no_place
        ∙ ap (nth (drop m xs)) (let none : s + 0 ≡ s = omega arith in none)
        ∙ early-at s is.begins.there)

    module _ (gone : n ≤ m + is.s) (same : renditions_in (drop m xs) ≡ renditions_in (drop n all)) where
      -- in the later list, the programme begins at the same place
      begins : IsLastPlaceBy (drop n all) start (m + s - n)
      begins = record {
        there = (let there = is.ends.there in let less = before in omega (arith, there, less, long, longer, gone));
        by = (
            let moved : n + (m + s - n) ≡ m + s = omega (arith, gone) in
            let equal = ap time_of (late-at (m + s - n)) ∙ ap (λ (k : ℕ). time_of (nth all k)) moved in
            let a = time-s in
            omega (arith, equal, a)
            );
        last = λ later after within.
            let there = is.ends.there in
            let less = before in
            let next = is.begins.last (s + 1) (omega arith) (omega (arith, there, less)) in
            let early = ap time_of (early-at (s + 1) (omega (arith, there, less))) in
            let on = rises-on all rise (m + (s + 1)) (n + later) (omega (arith, after, gone)) (omega (arith, within, longer, whole)) in
            let late = ap time_of (late-at later) in
            omega (arith, next, early, on, late);
      }

      -- in the later list, the programme ends at the same place
      ends : IsFirstPlaceFrom (drop n all) stop (m + e - n)
      ends = record {
        there = (let there = is.ends.there in let less = before in omega (arith, there, less, long, longer, gone));
        from = (
            let less = before in
            let moved : n + (m + e - n) ≡ m + e = omega (arith, gone, less) in
            let equal = ap time_of (late-at (m + e - n)) ∙ ap (λ (k : ℕ). time_of (nth all k)) moved in
            let b = time-e in
            omega (arith, equal, b)
            );
        first = λ earlier within.
            let there = is.ends.there in
            let less = before in
            let last = is.ends.first (e - 1) (omega (arith, less)) in
            let early = ap time_of (early-at (e - 1) (omega (arith, there, less))) in
            let on = rises-on all rise (n + earlier) (m + (e - 1)) (omega (arith, within, gone, less)) (omega (arith, there, less, long, whole)) in
            let late = ap time_of (late-at earlier) in
            omega (arith, last, early, on, late);
      }

      -- the same places
      range : slice_range (drop n all) (m + s - n) (m + e - n + 1) ≡ slice_range (drop m xs) s (e + 1)
      range =
          let there = is.ends.there in
          let less = before in
          let moved : n + (m + s - n) ≡ m + s = omega (arith, gone) in
          let count : m + e - n + 1 - (m + s - n) ≡ e + 1 - s = omega (arith, gone, less) in
          let left = length-drop (m + s) xs in
          ap (λ (k : ℕ). take k (drop (m + s - n) (drop n all))) count
          ∙ ap (take (e + 1 - s)) (drop-drop (m + s - n) n all ∙ ap (λ (k : ℕ). drop k all) moved ∙ drop-append-le (m + s) xs more (omega (arith, there, less, long)))
          ∙ take-append-le (e + 1 - s) (drop (m + s) xs) more (omega (arith, there, less, long, left))
          ∙ ap (take (e + 1 - s)) (sym (drop-drop s m xs))

      -- the later list has the same table for the programme, if none of its places is gone
      pub table-stays : IsProgrammeTable goal (drop n all) start stop t
      table-stays = record {
        s = m + s - n;
        e = m + e - n;
        begins = begins;
        ends = ends;
        is = is.is ∙ ap (λ (k : ℕ). table_of goal k (spots_of (slice_range (drop m xs) s (e + 1)))) same
            ∙ ap (λ (ps : List Place). table_of goal (renditions_in (drop n all)) (spots_of ps)) (sym range);
      }

-- ---- states

true-is : true ≡ false → ⊥
true-is is = cc

-- each number below that of the places of a state has its place
some-place : (s : State) (k : ℕ) → k < length (places s) → slice_get (places s) k ≡ Some (nth (places s) k)
some-place s k h = slice_get-get_or (places s) k no_place h

-- all places of a state after a kept one are kept
lasts : (s : State) → IsState s → Lasts (is_kept (floors s)) (places s)
lasts s state i j up h is =
    kept-goes-on s state i j (nth (places s) i) (nth (places s) j) up (some-place s i (omega (arith, up, h))) (some-place s j h) is

-- times increase along the places of a state
rise : (s : State) → IsState s → Rise (places s)
rise s state i j less h =
    times-rise s state i j (nth (places s) i) (nth (places s) j) less (some-place s i (omega (arith, less, h))) (some-place s j h)

-- if a state has places from number n on, they have as many renditions as the channel
renditions-of : (s : State) → IsState s → (n : ℕ) → n < length (places s) → renditions_in (drop n (places s)) ≡ length s.config.renditions
renditions-of s state n h =
    let none : n + 0 ≡ n = omega arith in
    ap length (table-place (drop n (places s)) 0)
    ∙ ap (λ (p : Place). length p.spots) (get_or-drop n (places s) 0 no_place ∙ ap (nth (places s)) none)
    ∙ spots-count s state n (nth (places s) n) (some-place s n h)
    ∙ floors-count s ∙ sources_count s ∙ lanes_count s.config s.log

module _ (a b : State) (request : Request) (t : Table) (ab : FollowsAsState a b) (is : HasTableOrFault a request (Ok t)) (keeps : KeepsProgramme b t) where
  abbrev more : List Place
  more = (places_follow a b (inr ab)).more

  on : places b ≡ places a ++ more
  on = (places_follow a b (inr ab)).is

  -- the kept places of the earlier state are those from some number on; so are those of the later one
  back-a : (n : ℕ) × IsBack (is_kept (floors a)) (places a) n
  back-a = back (is_kept (floors a)) (places a) (lasts a ab.earlier)

  back-b : (n : ℕ) × IsBack (is_kept (floors b)) (places b) n
  back-b = back (is_kept (floors b)) (places b) (lasts b ab.later)

  -- the table of the programme, in the earlier state's places from that number on
  found : IsProgrammeTable (goal_for a request) (drop back-a.0 (places a)) request.start_us request.stop_us t
  found = subst (λ (ps : List Place). IsProgrammeTable (goal_for a request) ps request.start_us request.stop_us t) back-a.1.is is.programme.0

  rises : Rise (places a ++ more)
  rises = subst Rise on (rise b ab.later)

  -- the first place of the programme is kept in the later state
  first-kept : is_kept (floors b) (nth (places b) (back-a.0 + found.s)) ≡ true
  first-kept =
      ap (λ (ps : List Place). is_kept (floors b) (nth ps (back-a.0 + found.s))) on
      ∙ sym (ap (is_kept_above (floors b))
      (first-place (places a) more back-a.0 back-b.0 rises (goal_for a request) request.start_us request.stop_us is.in_range.order t found))
      ∙ keeps

  -- no place of the programme is gone in the later state
  gone : back-b.0 ≤ back-a.0 + found.s
  gone = elim (cases_lt (back-a.0 + found.s) back-b.0) [
    | inl less ↦ absurd (true-is (sym first-kept ∙ back-b.1.before (back-a.0 + found.s) less))
    | inr up ↦ up
  ]

  -- the kept places of both states have equally many renditions
  same : renditions_in (drop back-a.0 (places a)) ≡ renditions_in (drop back-b.0 (places a ++ more))
  same =
      let there = found.begins.there in
      let left = length-drop back-a.0 (places a) in
      let whole = ap length on ∙ length-append (places a) more in
      let few = gone in
      renditions-of a ab.earlier back-a.0 (omega (arith, there, left))
      ∙ sym (ap (λ (c : ConfigData). length c.renditions) ab.continues.config)
      ∙ sym (renditions-of b ab.later back-b.0 (omega (arith, there, left, whole, few)))
      ∙ ap (λ (ps : List Place). renditions_in (drop back-b.0 ps)) on

  -- the later state has the same table for the programme
  table-b : IsProgrammeTable (goal_for a request) (kept_places b) request.start_us request.stop_us t
  table-b =
      subst (λ (ps : List Place). IsProgrammeTable (goal_for a request) ps request.start_us request.stop_us t)
      (ap (drop back-b.0) (sym on) ∙ sym back-b.1.is)
      (table-stays (places a) more back-a.0 back-b.0 rises (goal_for a request) request.start_us request.stop_us is.in_range.order t found gone same)

  -- the later state has the same table for the request
  pub stays-after : HasTableOrFault b request (Ok t)
  stays-after =
      let config = sym ab.continues.config in
      record {
        in_range = record {
          order = is.in_range.order;
          preferred = subst (λ (c : ConfigData). (1 ≤ request.preferred) × (request.preferred ≤ c.target * 1000000)) config is.in_range.preferred;
          charge = is.in_range.charge;
        };
        programme = (
          subst (λ (c : ConfigData). IsProgrammeTable (goal_of c.target request.preferred request.rule) (kept_places b) request.start_us request.stop_us t) config table-b,
          is.programme.1,
        );
      }

-- a programme that a state has is the same in every state that follows, as long as its first place is kept
pub programmes_stay : ProgrammesStay
programmes_stay a b request t (inl equal) is keeps = subst (λ (s : State). IsTableFor s request (Ok t)) equal is
programmes_stay a b request t (inr ab) is keeps = stays-after a b request t ab is keeps
