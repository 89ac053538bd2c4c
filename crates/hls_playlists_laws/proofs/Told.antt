-- What is known of the places of a state, and so of all segments that were ever closed.
use Rattle.std.proofs.Common.{◌≡◌, ℕ, suc, cond, ◌<◌, ◌≤◌, Bool, true, false, List, [], ◌∷◌, ◌++◌, length, get_or, Option, None, Some, arith, refl, sym, ap, inl, inr, ◌∙◌, All, length-append, append-nil}
use Rattle.std.specs.List.{filter_map, list_all, cons_option}
use Rattle.std.specs.Prelude.{option_map}
use Rattle.std.proofs.lemmas.Bool.{cases_Bool, cond-true, cond-false}
use Rattle.hls_media_laws.specs.declared.facts.Facts.{Facts}
use Rattle.hls_check_tables.specs.Tables.{IsSpotInRange, spot_in}
use Rattle.hls_places_laws.specs.declared.place.Place.{Place}
use Rattle.hls_places_laws.specs.Sources.{Source, source_at, first_facts, no_facts}
use Rattle.hls_places_laws.specs.Places.{spots, place_of, common_at, has_ended as is_over, closing_places, places_of}
use Rattle.hls_playlists_laws.proofs.Cited.{closing_place, places-ordered, places-within, over-stays, segments-stay, all-snoc, filter_map-all, states_are_timed, sources_grow, places_follow, continues_of, removed_within, some_at, lanes_count, source_of, units_are_logged}
use Rattle.hls_places_laws.specs.declared.line.goal.LineGoal.{LineGoal}
use Rattle.hls_places_laws.specs.declared.line.live_segment.LiveSegment.{LiveSegment}
use Rattle.hls_places_laws.specs.declared.line.segment_start.SegmentStart.{SegmentStart}
use Rattle.hls_places_laws.specs.Line.Cuts.{line_of}
use Rattle.hls_places_laws.specs.Line.Progress.{LineProgress}
use Rattle.hls_places_laws.specs.Line.Live.{full_progress, is_closing, has_ended}
use Rattle.hls_core_laws.specs.Config.{ConfigData}
use Rattle.hls_core_laws.specs.State.{State, channel}
use Rattle.hls_core_laws.specs.IsState.{IsState}
use Rattle.hls_core_laws.specs.Follows.{Follows}
use Rattle.hls_core_laws.specs.Places.{sources, places}
use Rattle.hls_core_laws.specs.Line.{line_goal_of, line}
use Rattle.hls_playlists_laws.proofs.Reached.{AreReached, line-reached}

-- a common place is among the units of each rendition, at small times; the closing one comes once all renditions are finished
pub record IsTold (s : State) (p : Place) : Type 0 where
  pub within : (r : ℕ) → r < length (sources s) → (spot_in p.spots r).fragment ≤ length (source_at (sources s) r).facts
  pub count : length p.spots ≡ length (sources s)
  pub small : All IsSpotInRange p.spots
  pub over : p.closing ≡ true → list_all is_over (sources s) ≡ true

-- a place that is made of spots isn't the closing one
mapped-open : (o : Option (List _)) (p : Place) → option_map place_of o ≡ Some p → p.closing ≡ false
mapped-open None p is = absurd (cc)
mapped-open (Some found) p is =
    let same : place_of found ≡ p = cc in
    sym (ap (λ (x : Place). x.closing) same)

-- a common place at a unit isn't the closing one
common-open : (xs : List Source) (f : Facts) (p : Place) → common_at xs f ≡ Some p → p.closing ≡ false
common-open xs f p is =
    elim (cases_Bool f.sync) [
      | inl sync ↦ mapped-open (spots xs f.start_us) p (sym (cond-true f.sync _ _ sync) ∙ is)
      | inr not_sync ↦
          let none : None ≡ Some p = sym (cond-false f.sync _ _ not_sync) ∙ is in
          absurd (cc)
    ]

-- if the place is the closing one, all renditions are finished
EndsOver : List Source → Place → Type 0
EndsOver xs p = p.closing ≡ true → list_all is_over xs ≡ true

-- this holds for a place that isn't the closing one
never-over : (xs : List Source) (p : Place) → p.closing ≡ false → EndsOver xs p
unfolding EndsOver
never-over xs p not_ended ends =
    let never : false ≡ true = sym not_ended ∙ ends in
    absurd (cc)

-- if a place of the sources is the closing one, all renditions are finished
ends-over : (xs : List Source) → All (EndsOver xs) (places_of xs)
unfolding EndsOver
ends-over xs =
    let found : List Place = filter_map (common_at xs) (first_facts xs) in
    let each : All (EndsOver xs) found =
    filter_map-all (common_at xs) (EndsOver xs) no_facts (first_facts xs)
    (λ k p h at. never-over xs p (common-open xs (get_or (first_facts xs) k no_facts) p at)) in
    elim (cases_Bool (list_all is_over xs)) [
      | inl all ↦
          let closing : closing_places xs ≡ closing_place xs ∷ [] = cond-true (list_all is_over xs) _ _ all in
          rw closing (all-snoc (EndsOver xs) found (closing_place xs) each (λ ends. all))
      | inr not_all ↦
          let closing : closing_places xs ≡ [] = cond-false (list_all is_over xs) _ _ not_all in
          rw (closing, append-nil found) each
    ]

-- each place of a state is among the units of each rendition, at small times, and the closing one comes once all are finished
pub places-progress : (s : State) → IsState s → All (IsTold s) (places s)
unfolding EndsOver
places-progress s state k d h =
    let ordered = places-ordered (sources s) (states_are_timed s state) in
    record {
      within = (places-within (sources s) k d h).each;
      count = (ordered.each k d h).place.count;
      small = (ordered.each k d h).place.spots;
      over = ends-over (sources s) k d h;
    }

-- the whole line of a state, with all segments that were ever closed
abbrev pub whole : State → LineProgress
whole s = full_progress (line_goal_of s.config) (places s)

-- all segments that were ever closed in a state, with the removed ones
abbrev pub closed : State → List LiveSegment
closed s = (whole s).line.segments

-- what is known of a state's places holds for the ends of each closed segment, and the segment is allowed
pub closed-reached : (s : State) → IsState s → AreReached (IsTold s) (line_goal_of s.config) (whole s)
closed-reached s state = line-reached (IsTold s) (line_goal_of s.config) (places s) (places-progress s state)

-- a state has removed no more segments than it has closed
pub removed-few : (s : State) → IsState s → (channel s).removed ≤ length (closed s)
removed-few s state = removed_within s state

-- once the line has ended, all renditions are finished
closing-over : (s : State) (o : Option SegmentStart) → ((x : SegmentStart) → o ≡ Some x → IsTold s x.place) → is_closing o ≡ true →
    list_all is_over (sources s) ≡ true
closing-over s None each is = absurd (cc)
closing-over s (Some o) each is = (each o refl).over is

-- once a state's line has ended, all renditions are finished
ended-over : (s : State) → IsState s → has_ended (line s) ≡ true → list_all is_over (sources s) ≡ true
ended-over s state is = closing-over s (whole s).line.segment_start (closed-reached s state).segment_start is

-- once the line has ended, a state that follows has the same units in all renditions
pub ended-stays : (a b : State) → IsState a → Follows a b → has_ended (line a) ≡ true → sources b ≡ sources a
ended-stays a b state (inl same) is = ap sources (sym same)
ended-stays a b state (inr ab) is =
    over-stays (sources a) (sources b) (sources_grow a b ab.later ab.continues) (ended-over a ab.earlier is)

-- a later state has the closed segments of an earlier one, and perhaps more after them
pub record Came (a b : State) : Type 0 where
  pub appended : List LiveSegment
  pub is : closed b ≡ closed a ++ appended

-- a state that follows has the closed segments of the earlier one, and perhaps more after them
pub closed-follow : (a b : State) → Follows a b → Came a b
closed-follow a b follows =
    let on = places_follow a b follows in
    let line_goal : LineGoal = line_goal_of a.config in
    let longer = segments-stay line_goal (places a) on.more in
    record {
      appended = longer.0;
      is = ap (λ (c : ConfigData). (line_of (line_goal_of c) (places b)).segments) (continues_of a b follows).config
          ∙ (ap (λ (ps : List Place). (line_of line_goal ps).segments) on.is ∙ longer.1);
    }

-- a filtered list has no more items than the list
filtered : {X Y : Type 0} (f : X → Option Y) (xs : List X) → length (filter_map f xs) ≤ length xs
filtered f [] = omega arith
filtered f (x ∷ xs) = elim (f x) as (λ o. length (cons_option o (filter_map f xs)) ≤ suc (length xs)) [
  | None ↦ omega (arith, filtered f xs)
  | Some y ↦ omega (arith, filtered f xs)
]

-- at most one closing place follows the common places
closing-one : (b : Bool) (p : Place) → length (cond b (p ∷ []) []) ≤ 1
closing-one true p = omega arith
closing-one false p = omega arith

-- a state has at most one common place more than a log has entries: at most 4194305
pub places-few : (s : State) → IsState s → length (places s) ≤ 4194305
places-few s state =
    let lane_at = some_at (channel s).lanes 0 (omega (arith, lanes_count s.config s.log, state.configured.renditions.some)) in
    let facts : length (first_facts (sources s)) ≡ length lane_at.0.facts = ap length (source_of s 0 lane_at.0 lane_at.1).facts in
    let found = filtered (common_at (sources s)) (first_facts (sources s)) in
    let end = closing-one (list_all is_over (sources s)) (closing_place (sources s)) in
    omega (
      arith,
      facts,
      found,
      end,
      state.few,
      units_are_logged s.config s.log state.legal 0 lane_at.0 lane_at.1,
      length-append (filter_map (common_at (sources s)) (first_facts (sources s))) (closing_places (sources s)),
    )
