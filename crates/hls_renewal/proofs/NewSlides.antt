-- Each event of a renewal is new in the state that it meets: the slide, which follows the renditions.
use Rattle.std.proofs.Common.{◌≡◌, ◌∙◌, ℕ, zero, suc, ◌+◌, ◌-◌, ◌<◌, ◌≤◌, ◌==◌, Bool, true, false, Option, Some, None, List, [], ◌∷◌, ◌++◌, length, map, drop, get_or, Ok, Err, refl, sym, ap, subst, inl, inr, arith, length-append, length-drop}
use Rattle.std.specs.Prelude.{◌||◌, if◌then◌else◌, nat_le, nat_lt, slice_get}
use Rattle.std.specs.List.{sum_by}
use Rattle.std.proofs.lemmas.Bool.{and_from, cases_Bool, cond-false, le-leb, le-ltb}
use Rattle.std.proofs.lemmas.List.{drop-drop}
use Rattle.std.proofs.lemmas.List.Sums.{sum_by-cons}
use Rattle.std.proofs.lemmas.Option.{get_or_from_slice_get, slice_get_within}
use Rattle.hls_check_tables.specs.declared.spot.Spot.{Spot}
use Rattle.hls_check_tables.specs.Tables.{spot_in}
use Rattle.hls_places_laws.specs.declared.place.Place.{Place}
use Rattle.hls_places_laws.specs.declared.fault.LineFault.TheVariants.{TooMany, TooShort}
use Rattle.hls_places_laws.specs.FromPlace.{IsPlaceFrom, PlacesFromAPlaceAgree, PlacesNeverGoBack, spot_since, spots_since}
use Rattle.hls_places_laws.specs.declared.line.live_segment.LiveSegment.{LiveSegment}
use Rattle.hls_places_laws.specs.declared.line.segment_start.SegmentStart.{SegmentStart}
use Rattle.hls_places_laws.specs.Line.FromCut.{LineFromCutAgrees, segment_since, segments_since}
use Rattle.hls_places_laws.specs.Line.Lengths.{each_below, is_long, length_in, remaining_length, renditions_of, three_targets}
use Rattle.hls_places_laws.specs.Line.Live.{Live, has_ended, may_slide, segments_of, stays_long}
use Rattle.hls_places_laws.specs.Line.Origins.{segments_over}
use Rattle.hls_places_laws.proofs.Callers.{from_at, spot_since_at}
use Rattle.hls_core_laws.specs.declared.event.Event.{Event}
use Rattle.hls_core_laws.specs.declared.event.Event.TheVariants.{Slide}
use Rattle.hls_core_laws.specs.Base.{BaseData, IsBase}
use Rattle.hls_core_laws.specs.Config.{ConfigData, IsConfig, without_base}
use Rattle.hls_core_laws.specs.Channel.{Lane, no_lane}
use Rattle.hls_core_laws.specs.State.{State, channel}
use Rattle.hls_core_laws.specs.IsState.{IsState}
use Rattle.hls_core_laws.specs.Line.{line, line_goal_of}
use Rattle.hls_core_laws.specs.Outcome.{New, outcome_of, slide}
use Rattle.hls_core_laws.specs.Places.{places, sources}
use Rattle.hls_core_laws.specs.Runs.{replayed_state}
use Rattle.hls_core_laws.proofs.Callers.{at_drop, first_is_state, removed_within, some_at, sources_count}
use Rattle.hls_core.specs.Bases.{config_after}
use Rattle.hls_playlists_laws.specs.CutBases.{base_of_cut}
use Rattle.hls_playlists_laws.specs.Handovers.{unit_at as cut_unit}
use Rattle.hls_playlists_laws.proofs.Callers.{IsAmong, closed, closed-among, closed-reached, whole}
use Rattle.hls_renewal.specs.declared.line_cut.LineCut.{LineCut}
use Rattle.hls_renewal.specs.Cuts.{IsLineCut, first_cut}
use Rattle.hls_renewal.specs.Laws.{RenewalsAreNew}
use Rattle.hls_renewal.specs.Renewals.{AreNew, rendition_from, renditions_from, renewal_events, renewal_start, slide_by}
use Rattle.hls_renewal.proofs.AllNew.{new_entries}
use Rattle.hls_renewal.proofs.EqualLists.{all_states}
use Rattle.hls_renewal.proofs.EventCounts.{renewal_count}
use Rattle.hls_renewal.proofs.EventRuns.{not_equal_up, own_events}
use Rattle.hls_renewal.proofs.LineCuts.{is_line_cut}
use Rattle.hls_renewal.proofs.LongLines.{stays_long_always}
use Rattle.hls_renewal.proofs.NewEvents.{all_renditions_new, has_room, new_append}
use Rattle.hls_renewal.proofs.RenewalFits.{all_fit, no_inits, renditions_of as are_of}
use Rattle.hls_renewal.proofs.RenewedLanes.{IsLaneFrom, after_all, config_after_all, fresh_at, ignores, lane_after, lane_run, one_lane, some_same, spot_of_cut}
use Rattle.hls_renewal.proofs.RenewedRemovals.{all_removals, by_renditions, cut_removed, none_removed}
use Rattle.hls_renewal.proofs.RenewedSources.{IsContinued, ended_alike, places_from_cut, same_lanes, since_count, spots_long}

-- ---- segments, counted from a cut, are as long

-- for a spot after the cut, counting from the cut doesn't change the end of the unit before it
end_since : (c t : Spot) → c.fragment < t.fragment → (spot_since c t).prev_end ≡ t.prev_end
end_since c t less = cond-false (t.fragment == c.fragment) t.start t.prev_end (not_equal_up t.fragment c.fragment less)

-- a segment from the cut on that has a unit in rendition r is as long there when its places are counted from the cut
same_length : (cut : Place) (r : ℕ) (x : LiveSegment) → r < length cut.spots → IsPlaceFrom cut x.from → IsPlaceFrom cut x.to → (spot_in x.from.spots r).fragment < (spot_in x.to.spots r).fragment
    → length_in r (segment_since cut.spots x) ≡ length_in r x
same_length cut r x within from to rises =
    let above = (from_at cut.spots x.from.spots r from within).fragment in
    let start : (spot_in (spots_since cut.spots x.from.spots) r).start ≡ (spot_in x.from.spots r).start =
    ap (λ (s : Spot). s.start) (spot_since_at cut.spots x.from.spots r from within) in
    let end : (spot_in (spots_since cut.spots x.to.spots) r).prev_end ≡ (spot_in x.to.spots r).prev_end =
    ap (λ (s : Spot). s.prev_end) (spot_since_at cut.spots x.to.spots r to within) ∙ end_since (spot_in cut.spots r) (spot_in x.to.spots r) (omega (arith, above, rises)) in
    ap (λ n. n - (spot_in (spots_since cut.spots x.from.spots) r).start) end ∙ ap (λ n. (spot_in x.to.spots r).prev_end - n) start

-- if `f` leaves the measure `g` of each element, the sum over the changed elements is the same
same_sum : (f : LiveSegment → LiveSegment) (g : LiveSegment → ℕ) (xs : List LiveSegment) → ((k : ℕ) (x : LiveSegment) → slice_get xs k ≡ Some x → g (f x) ≡ g x)
    → sum_by g (map f xs) ≡ sum_by g xs
same_sum f g [] same = refl
same_sum f g (x ∷ xs) same = omega (arith, same 0 x refl, same_sum f g xs (λ k y at. same (suc k) y at), sum_by-cons g (f x) (map f xs), sum_by-cons g x xs)

-- dropping the first n elements and changing each element can be done in either order
drop_mapped : {A B : Type 0} (f : A → B) (n : ℕ) (xs : List A) → drop n (map f xs) ≡ map f (drop n xs)
drop_mapped f zero xs = refl
drop_mapped f (suc n) [] = refl
drop_mapped f (suc n) (x ∷ xs) = drop_mapped f n xs

-- after at least one of the segments from a cut is dropped, the others have their own marks, counted from the cut
drop_since : (cut : List Spot) (n : ℕ) (xs : List LiveSegment) → 0 < n → drop n (segments_since cut xs) ≡ map (segment_since cut) (drop n xs)
drop_since cut zero xs some = absurd (omega (arith, some))
drop_since cut (suc n) [] some = refl
drop_since cut (suc n) (x ∷ xs) some = drop_mapped (segment_since cut) n xs

-- ---- when a slide is allowed

-- a disjunction is true if its first part is
or_true : (a b : Bool) → a ≡ true → (a || b) ≡ true
or_true true b is = refl
or_true false b is = absurd (cc)

-- a disjunction is true if its second part is
or_other : (a b : Bool) → b ≡ true → (a || b) ≡ true
or_other true b is = refl
or_other false b is = is

-- if a test is true for each number below a bound, the test of all of them is true
each_all : (test : ℕ → Bool) (bound : ℕ) → ((r : ℕ) → r < bound → test r ≡ true) → each_below bound test ≡ true
each_all test zero each = refl
each_all test (suc bound) each = and_from (each_below bound test) (test bound) (each_all test bound (λ r h. each r (omega (arith, h)))) (each bound (omega arith))

-- a slide is allowed if the line has that number of segments and stays long enough
may_ok : (live : Live) (n : ℕ) → stays_long live (suc n) ≡ true → suc n ≤ length (segments_of live) → may_slide live (suc n) ≡ Ok tt
may_ok live n stays few =
    let none : (suc n == 0) ≡ false = not_equal_up (suc n) 0 (omega arith) in
    let within : (suc n == 0 || nat_lt (length (segments_of live)) (suc n)) ≡ false =
    ap (λ (b : Bool). b || nat_lt (length (segments_of live)) (suc n)) none ∙ le-ltb (length (segments_of live)) (suc n) few in
    ap (λ (b : Bool). if b then Err TooMany else (if stays_long live (suc n) then Ok tt else Err TooShort)) within
    ∙ ap (λ (b : Bool). if b then Ok tt else Err TooShort) stays

-- the line's open segment begins in no more renditions than the channel has
count_at : (s : State) (o : Option SegmentStart) (r : ℕ) → IsState s → (whole s).line.segment_start ≡ o → r < renditions_of o → r < length (sources s)
count_at s None r state is h = absurd (omega (arith, h))
count_at s (Some o) r state is h = omega (arith, h, ((closed-reached s state).segment_start o is).count)

-- ---- the channel after the renditions

-- the renewed channel before its slide: all renditions from the cut on
abbrev middle : State → LineCut → State
middle a cut = replayed_state (renewal_start a cut) (renditions_from a 0 (cut.place).spots)

module _ (a : State) (cut : LineCut) (state : IsState a) (first : first_cut a ≡ Some cut) (based : IsBase (base_of_cut a cut.segments cut.place)) where
  -- the base of the cut
  base : BaseData
  base = base_of_cut a cut.segments cut.place

  -- the first cut is a cut of the line
  is_cut : IsLineCut a cut
  is_cut = is_line_cut a cut state first

  -- the events of the renditions are new
  new : AreNew (renewal_start a cut) (renditions_from a 0 (cut.place).spots)
  new = all_renditions_new a cut state first

  -- the renewed channel before its slide is a state
  middle_state : IsState (middle a cut)
  middle_state =
      let config : IsConfig (config_after a.config (base_of_cut a cut.segments cut.place)) = record {
        target = state.configured.target;
        preferred = state.configured.preferred;
        renditions = state.configured.renditions;
        epoch = state.configured.epoch;
        base = based;
      } in
      all_states (renewal_start a cut) (renditions_from a 0 (cut.place).spots) (first_is_state (config_after a.config (base_of_cut a cut.segments cut.place)) config)
      (all_fit a (renewal_start a cut) (renditions_from a 0 (cut.place).spots) (no_inits a (config_after a.config (base_of_cut a cut.segments cut.place))) (are_of a 0 (cut.place).spots state))

  -- the renewed channel before its slide continues the old one at the cut
  on : IsContinued a (middle a cut) cut
  on = record {
    is_cut = is_cut;
    config = ap without_base (config_after_all (renewal_start a cut) (renditions_from a 0 (cut.place).spots));
    lanes = λ r l m at there.
        let n = cut_unit cut.place r in
        let spot = spot_of_cut a cut r l state is_cut at in
        let run = after_all (renewal_start a cut) (renditions_from a 0 (cut.place).spots) r no_lane new (fresh_at a cut r l at) in
        let mine : lane_run r (renditions_from a 0 (cut.place).spots) no_lane ≡ lane_run r (rendition_from a r n) no_lane =
        own_events lane_after ignores a r r 0 (cut.place).spots (spot_in (cut.place).spots r) no_lane (omega arith) spot.0 in
        let same : lane_run r (rendition_from a r n) no_lane ≡ m = some_same _ m (ap Some (sym mine) ∙ sym run ∙ there) in
        subst (λ (x : Lane). IsLaneFrom n l x) same (one_lane a r n l state spot.1);
  }

  -- the renewed channel before its slide has removed no segment
  none_gone : (line (middle a cut)).removed ≡ 0
  none_gone =
      all_removals (renewal_start a cut) (renditions_from a 0 (cut.place).spots) new
      ∙ by_renditions a 0 (cut.place).spots (channel (renewal_start a cut)).removed ∙ none_removed a cut

  module _ (from_place : PlacesFromAPlaceAgree) (in_row : PlacesNeverGoBack) (from_cut : LineFromCutAgrees) where
    -- the closed segments of the old channel
    old : List LiveSegment
    old = segments_over (line_goal_of a.config) (sources a)

    -- the line of the renewed channel before its slide has the old segments from the cut on
    kept_segments : segments_of (line (middle a cut)) ≡ segments_since (cut.place).spots (drop cut.segments (segments_over (line_goal_of a.config) (sources a)))
    kept_segments =
        ap (λ n. drop n (segments_over (line_goal_of (middle a cut).config) (sources (middle a cut)))) none_gone
        ∙ (places_from_cut a (middle a cut) cut on state from_place in_row from_cut).3

    -- without as many segments as the old channel has removed since the cut, those of the old line are left, counted from the cut
    left : (n : ℕ) → 0 < n → (line a).removed ≡ cut.segments + n
        → drop n (segments_of (line (middle a cut))) ≡ map (segment_since (cut.place).spots) (segments_of (line a))
    left n some is =
        ap (λ xs. drop n xs) kept_segments
        ∙ drop_since (cut.place).spots n (drop cut.segments (segments_over (line_goal_of a.config) (sources a))) some
        ∙ ap (λ xs. map (segment_since (cut.place).spots) xs) (drop-drop n cut.segments (segments_over (line_goal_of a.config) (sources a)))
        ∙ ap (λ k. map (segment_since (cut.place).spots) (drop k (segments_over (line_goal_of a.config) (sources a)))) (sym is)

    -- the segments of the old line are as long in each rendition when they are counted from the cut
    as_long : (r : ℕ) → r < length (sources a) → (n : ℕ) → (line a).removed ≡ cut.segments + n
        → sum_by (length_in r) (map (segment_since (cut.place).spots) (segments_of (line a))) ≡ sum_by (length_in r) (segments_of (line a))
    as_long r h n is =
        let all = (places_from_cut a (middle a cut) cut on state from_place in_row from_cut).4 in
        let l = some_at (channel a).lanes r (omega (arith, h, sources_count a)) in
        let long = spots_long a (middle a cut) cut on state in
        same_sum (segment_since (cut.place).spots) (length_in r) (segments_of (line a)) (λ k x at.
        let there : slice_get (closed a) ((line a).removed + k) ≡ Some x = sym (at_drop (closed a) (line a).removed k) ∙ at in
        let number : (line a).removed + k ≡ cut.segments + (n + k) = omega (arith, is) in
        let ends = all (n + k) x (at_drop (closed a) cut.segments (n + k) ∙ ap (λ j. slice_get (closed a) j) (sym number) ∙ there) in
        let same : get_or (closed a) ((line a).removed + k) x ≡ x = get_or_from_slice_get (closed a) ((line a).removed + k) x x there in
        let among : IsAmong a.config.target r l.0 x =
        subst (λ y. IsAmong a.config.target r l.0 y) same (closed-among a state r l.0 l.1 ((line a).removed + k) x (slice_get_within (closed a) ((line a).removed + k) x there)) in
        same_length cut.place r x (omega (arith, h, long)) ends.0 ends.1 among.rises)

    -- the slide leaves three target durations in each rendition, unless the line has ended
    slid_long : (n : ℕ) → (line a).removed ≡ cut.segments + suc n → stays_long (line (middle a cut)) (suc n) ≡ true
    slid_long n is =
        let t = middle a cut in
        let goal = line_goal_of t.config in
        let alike = ended_alike a t cut on state middle_state in
        let long = is_long goal (renditions_of (whole t).line.segment_start) (segments_of (line t)) (suc n) in
        elim (cases_Bool (has_ended (line a))) [
          | inl over ↦ or_true (has_ended (line t)) long (alike ∙ over)
          | inr unended ↦
              let some : 0 < (line a).removed = omega (arith, is) in
              let before = stays_long_always a state some unended in
              or_other (has_ended (line t)) long
              (each_all (λ r. nat_le (three_targets goal) (remaining_length r (segments_of (line t)) (suc n))) (renditions_of (whole t).line.segment_start) (λ r h.
              let below : r < length (sources t) = count_at t (whole t).line.segment_start r middle_state refl h in
              let inside : r < length (sources a) = omega (arith, below, sources_count t, sources_count a, same_lanes a t cut on state) in
              let sums : remaining_length r (segments_of (line t)) (suc n) ≡ sum_by (length_in r) (segments_of (line a)) =
              ap (λ xs. sum_by (length_in r) xs) (left (suc n) (omega arith) is) ∙ as_long r inside (suc n) is in
              let targets : three_targets goal ≡ three_targets (line_goal_of a.config) = ap (λ (c : ConfigData). three_targets (line_goal_of c)) on.config in
              le-leb (three_targets goal) (remaining_length r (segments_of (line t)) (suc n)) (omega (arith, sums, targets, before.each r inside))))
        ]

    -- the slide to the front of the old line is new if the log has room for it
    slide_new : (n : ℕ) → (line a).removed ≡ cut.segments + n → length (middle a cut).log + length (slide_by n) ≤ 4194304 → AreNew (middle a cut) (slide_by n)
    slide_new zero is room = tt
    slide_new (suc n) is room =
        let count = length-drop cut.segments (segments_over (line_goal_of a.config) (sources a)) in
        let since = since_count (cut.place).spots (drop cut.segments (segments_over (line_goal_of a.config) (sources a))) in
        let few : suc n ≤ length (segments_of (line (middle a cut))) = omega (arith, is, removed_within a state, ap length kept_segments, since, count) in (
          ap (λ m. slide m (length (middle a cut).log)) (may_ok (line (middle a cut)) n (slid_long n is) few) ∙ has_room (length (middle a cut).log) (omega (arith, room)),
          tt,
        )

    -- all events of a renewal are new
    all_new : AreNew (renewal_start a cut) (renewal_events a cut)
    all_new =
        let n = (line a).removed - cut.segments in
        let is : (line a).removed ≡ cut.segments + n = omega (arith, cut_removed a cut first) in
        let split = length-append (renditions_from a 0 (cut.place).spots) (slide_by n) in
        let none : length (renewal_start a cut).log ≡ 0 = refl in
        let logged = new_entries (renewal_start a cut) (renditions_from a 0 (cut.place).spots) new in
        new_append (renewal_start a cut) (renditions_from a 0 (cut.place).spots) (slide_by n) new
        (slide_new n is (omega (arith, none, split, logged, renewal_count a cut state, state.few)))

-- each event of a renewal is new in the state that it meets, by the laws of places and lines from a place on
pub events_new : PlacesFromAPlaceAgree → PlacesNeverGoBack → LineFromCutAgrees → RenewalsAreNew
events_new from_place in_row from_cut a cut state first based = all_new a cut state first based from_place in_row from_cut
