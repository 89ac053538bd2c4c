-- A line has ended once each rendition has: the closing place ends it.
use Rattle.std.proofs.Common.{◌≡◌, ◌∙◌, ℕ, zero, suc, ◌+◌, ◌<◌, ◌≤◌, Bool, true, false, cond, List, [], ◌∷◌, ◌++◌, length, map, get_or, Option, Some, None, refl, sym, ap, subst, inl, inr, arith, All}
use Rattle.std.specs.Prelude.{◌&&◌, ◌||◌, nat_lt, nat_le, option_map}
use Rattle.std.specs.List.{filter_map, list_all}
use Rattle.std.proofs.lemmas.Bool.{and_parts, cases_Bool, cond-true, cond-false, ltb-true}
use Rattle.std.proofs.lemmas.List.{length-map}
use Rattle.hls_media_laws.specs.declared.facts.Facts.{Facts}
use Rattle.hls_check_tables.specs.declared.spot.Spot.{Spot}
use Rattle.hls_check_tables.specs.Tables.{spot_in}
use Rattle.hls_places_laws.specs.declared.place.Place.{Place}
use Rattle.hls_places_laws.specs.Sources.{Source, source_at, first_facts, fact_at, no_facts}
use Rattle.hls_places_laws.specs.Spots.{near_spot, spot_at, spot_by}
use Rattle.hls_places_laws.specs.Places.{spots, with_spot, place_of, common_at, has_ended, source_end_spot, closing_places, places_of}
use Rattle.hls_places_laws.specs.declared.line.goal.LineGoal.{LineGoal}
use Rattle.hls_places_laws.specs.declared.line.live_segment.LiveSegment.{LiveSegment}
use Rattle.hls_places_laws.specs.declared.line.segment_start.SegmentStart.{SegmentStart}
use Rattle.hls_places_laws.specs.Line.Steps.{is_later_place, is_allowed, is_long_enough}
use Rattle.hls_places_laws.specs.Line.Cuts.{start_at, restart_at}
use Rattle.hls_places_laws.specs.Line.Progress.{LineProgress, no_progress, progress_with, closed_with, progress_to, progress_restarted_at, progress_from, progress_after, advanced_through}
use Rattle.hls_places_laws.specs.Line.Live.{full_progress, live_of, is_closing, has_ended as has_line_ended}
use Rattle.hls_places_laws.proofs.Callers.{closing_place, filter_map-all, live-moves, past-from_each, progress-more, progress-none, tried-enough, tried-far, whole-is_told}

-- ---- the open place and the best one are among the places so far

-- the place where the open segment begins and the best place have a property P, if there are such places
record Starts (P : Place → Type 0) (t : LineProgress) : Type 0 where
  start : (o : SegmentStart) → t.line.segment_start ≡ Some o → P o.place
  best : (b : Place) → t.best ≡ Some b → P b

some_is : {A : Type 0} (x y : A) → Some x ≡ Some y → x ≡ y
some_is x y is = cc

no_best : (P : Place → Type 0) (b : Place) → None ≡ Some b → P b
no_best P b at = absurd (cc)

one_best : (P : Place → Type 0) (q b : Place) → P q → Some q ≡ Some b → P b
one_best P q b here at = subst P (some_is q b at) here

-- a line's progress has P at the start of the open segment and at the best place, if those that it is made of have P
starts_with : (P : Place → Type 0) (segments : List LiveSegment) (o : SegmentStart) (best : Option Place) → P o.place → ((b : Place) → best ≡ Some b → P b)
    → Starts P (progress_with segments o best)
starts_with P segments o best here reached = record {
  start = λ x at. subst (λ (y : SegmentStart). P y.place) (some_is o x at) here;
  best = reached;
}

-- if both of two results have P at their places, so has the one that a condition chooses
starts_if : (P : Place → Type 0) (b : Bool) (t u : LineProgress) → Starts P t → Starts P u → Starts P (cond b t u)
starts_if P true t u left right = left
starts_if P false t u left right = right

-- if the open segment's start, the best place, the next place and the result `stopped` have P, so has the progress after the next place
tried_starts : (P : Place → Type 0) (goal : LineGoal) (removed : ℕ) (segments : List LiveSegment) (o : SegmentStart) (best : Option Place) (q : Place)
    (stopped : LineProgress) → P o.place → ((b : Place) → best ≡ Some b → P b) → P q → Starts P stopped → Starts P (progress_to goal removed segments o best q stopped)
unfolding progress_to
tried_starts P goal removed segments o best q stopped from reached here last =
    starts_if P (is_later_place o.place q) _ _
    (starts_if P (is_allowed goal o.place q) _ _
    (starts_if P (is_long_enough goal o.place q) _ _
    (starts_with P (closed_with removed segments o q) (start_at q) None here (no_best P))
    (starts_with P segments o (Some q) from (λ b at. one_best P q b here at)))
    last)
    (starts_with P segments o best from reached)

-- if the best place and the next place have P, so has the progress when the next place is out of reach
restarted_starts : (P : Place → Type 0) (goal : LineGoal) (removed : ℕ) (segments : List LiveSegment) (o : SegmentStart) (best : Option Place) (q : Place)
    → ((b : Place) → best ≡ Some b → P b) → P q → Starts P (progress_restarted_at goal removed segments o best q)
unfolding progress_restarted_at
restarted_starts P goal removed segments o None q reached here = starts_with P segments (restart_at q) None here (no_best P)
restarted_starts P goal removed segments o (Some b) q reached here =
    tried_starts P goal removed (closed_with removed segments o b) (start_at b) None q _ (reached b refl) (no_best P) here
    (starts_with P (closed_with removed segments o b) (restart_at q) None here (no_best P))

-- if the open segment's start, the best place and the next place have P, so has the progress after the next place
added_starts : (P : Place → Type 0) (goal : LineGoal) (removed : ℕ) (segments : List LiveSegment) (start : Option SegmentStart) (best : Option Place) (q : Place)
    → ((o : SegmentStart) → start ≡ Some o → P o.place) → ((b : Place) → best ≡ Some b → P b) → P q → Starts P (progress_from goal removed segments start best q)
unfolding progress_from
added_starts P goal removed segments None best q opens reached here = starts_with P segments (start_at q) best here reached
added_starts P goal removed segments (Some o) best q opens reached here =
    tried_starts P goal removed segments o best q _ (opens o refl) reached here (restarted_starts P goal removed segments o best q reached here)

-- if all places that are added have P, the open segment begins at a place with P, and the best place has P
all_starts : (P : Place → Type 0) (goal : LineGoal) (removed : ℕ) (t : LineProgress) (places : List Place) → All P places → Starts P t
    → Starts P (advanced_through goal removed t places)
all_starts P goal removed t [] all starts = subst (λ (x : LineProgress). Starts P x) (sym (progress-none goal removed t)) starts
all_starts P goal removed t (q ∷ rest) all starts =
    subst (λ (x : LineProgress). Starts P x) (sym (progress-more goal removed t q rest))
    (all_starts P goal removed (progress_after goal removed t q) rest (λ k d h. all (suc k) d (omega (arith, h)))
    (added_starts P goal removed t.line.segments t.line.segment_start t.best q starts.start starts.best (all 0 q (omega arith))))

-- ---- the closing place ends the line, wherever it was open

-- the open segment begins at the closing place: the line has ended
abbrev Closes : LineProgress → Type 0
Closes t = is_closing t.line.segment_start ≡ true

or_right : (a b : Bool) → b ≡ true → (a || b) ≡ true
or_right true b is = refl
or_right false b is = is

-- a segment to the closing place is always long enough
closing_is_long : (goal : LineGoal) (o q : Place) → q.closing ≡ true → is_long_enough goal o q ≡ true
unfolding is_long_enough
closing_is_long goal o q closing = or_right _ q.closing closing

-- the closing place ends the line if it is later than the open segment's start, and if the line also ends when it is out of reach
tried_closes : (goal : LineGoal) (removed : ℕ) (segments : List LiveSegment) (o : SegmentStart) (best : Option Place) (q : Place) (stopped : LineProgress)
    → q.closing ≡ true → is_later_place o.place q ≡ true → Closes stopped → Closes (progress_to goal removed segments o best q stopped)
tried_closes goal removed segments o best q stopped closing later last = elim (cases_Bool (is_allowed goal o.place q)) [
  | inl allowed ↦
      ap (λ (t : LineProgress). is_closing t.line.segment_start)
      (tried-enough goal removed segments o best q stopped later allowed (closing_is_long goal o.place q closing)) ∙ closing
  | inr far ↦ ap (λ (t : LineProgress). is_closing t.line.segment_start) (tried-far goal removed segments o best q stopped later far) ∙ last
]

-- when the closing place is out of reach, the line closes the segment to the best place or restarts; it ends either way
restarted_closes : (goal : LineGoal) (removed : ℕ) (segments : List LiveSegment) (o : SegmentStart) (best : Option Place) (q : Place)
    → q.closing ≡ true → ((b : Place) → best ≡ Some b → is_later_place b q ≡ true) → Closes (progress_restarted_at goal removed segments o best q)
unfolding progress_restarted_at
restarted_closes goal removed segments o None q closing before = closing
restarted_closes goal removed segments o (Some b) q closing before =
    tried_closes goal removed (closed_with removed segments o b) (start_at b) None q _ closing (before b refl) closing

-- adding the closing place ends the line if the open segment's start and the best place are before it
added_closes : (goal : LineGoal) (removed : ℕ) (segments : List LiveSegment) (start : Option SegmentStart) (best : Option Place) (q : Place)
    → q.closing ≡ true → ((o : SegmentStart) → start ≡ Some o → is_later_place o.place q ≡ true) → ((b : Place) → best ≡ Some b → is_later_place b q ≡ true)
    → Closes (progress_from goal removed segments start best q)
unfolding progress_from
added_closes goal removed segments None best q closing opens before = closing
added_closes goal removed segments (Some o) best q closing opens before =
    tried_closes goal removed segments o best q _ closing (opens o refl) (restarted_closes goal removed segments o best q closing before)

-- ---- each other place has a unit, so the closing one is later

-- spots of renditions, each at a unit that is there
pub record AreAtUnits (sources : List Source) (found : List Spot) : Type 0 where
  pub count : length found ≡ length sources
  pub each : (r : ℕ) → r < length sources → (spot_in found r).fragment < length (source_at sources r).facts

-- the spot that a search by unit numbers finds is at one of the rendition's units
at_unit : (fs : List Facts) (high k : ℕ) (spot : Spot) → spot_by fs high k ≡ Some spot → spot.fragment < length fs
at_unit fs high k spot is = elim (cases_Bool (nat_lt k (length fs) && nat_le (fact_at fs k).start_us high)) [
  | inl there ↦
      let same : spot_at fs k ≡ spot = some_is _ _ (sym (cond-true (nat_lt k (length fs) && nat_le (fact_at fs k).start_us high) _ _ there) ∙ is) in
      let number : k ≡ spot.fragment = ap (λ (x : Spot). x.fragment) same in
      let parts = and_parts (nat_lt k (length fs)) (nat_le (fact_at fs k).start_us high) there in
      omega (arith, number, ltb-true k (length fs) parts.0)
  | inr missing ↦
      let none : None ≡ Some spot = sym (cond-false (nat_lt k (length fs) && nat_le (fact_at fs k).start_us high) _ _ missing) ∙ is in
      absurd (cc)
]

-- if spots of all renditions are found, so are the first one's spot and the spots of the others
split_spots : (o : Option Spot) (rest : Option (List Spot)) (found : List Spot) → with_spot o rest ≡ Some found
    → (spot : Spot) × (others : List Spot) × (o ≡ Some spot) × (rest ≡ Some others) × (spot ∷ others ≡ found)
split_spots None rest found is = absurd (cc)
split_spots (Some spot) None found is = absurd (cc)
split_spots (Some spot) (Some others) found is = (spot, others, refl, refl, some_is _ _ is)

-- if a rendition's spot is at one of its units and the other renditions' spots are at units of theirs, so are all of them
more_at_units : (s : Source) (sources : List Source) (spot : Spot) (others : List Spot) → spot.fragment < length s.facts → AreAtUnits sources others
    → (r : ℕ) → r < length (s ∷ sources) → (spot_in (spot ∷ others) r).fragment < length (source_at (s ∷ sources) r).facts
more_at_units s sources spot others here more zero h = here
more_at_units s sources spot others here more (suc r) h = more.each r (omega (arith, h))

-- the spots that are found in all renditions for a time are at units that are there
are_at_units : (sources : List Source) (t : ℕ) (found : List Spot) → spots sources t ≡ Some found → AreAtUnits sources found
are_at_units [] t found is =
    let same : [] ≡ found = some_is _ _ is in
    record { count = ap length (sym same); each = λ r h. absurd (omega (arith, h)) }
are_at_units (s ∷ sources) t found is =
    let parts = split_spots (near_spot s t) (spots sources t) found is in
    let more = are_at_units sources t parts.1 parts.3 in
    let here : (parts.0).fragment < length s.facts = at_unit s.facts _ _ parts.0 parts.2 in
    subst (λ (l : List Spot). AreAtUnits (s ∷ sources) l) parts.4
    (record { count = ap suc more.count; each = more_at_units s sources parts.0 parts.1 here more })

-- a place that is made of spots has exactly these spots
of_spots : (o : Option (List Spot)) (p : Place) → option_map place_of o ≡ Some p → o ≡ Some p.spots
of_spots None p is = absurd (cc)
of_spots (Some found) p is =
    let same : place_of found ≡ p = some_is _ _ is in
    ap (λ (x : Place). Some x.spots) same

-- a common place that is found from a unit has its spots at units that are there
pub common_at_units : (sources : List Source) (f : Facts) (p : Place) → common_at sources f ≡ Some p → AreAtUnits sources p.spots
common_at_units sources f p is = elim (cases_Bool f.sync) [
  | inl sync ↦ are_at_units sources f.start_us p.spots (of_spots (spots sources f.start_us) p (sym (cond-true f.sync _ _ sync) ∙ is))
  | inr missing ↦
      let none : None ≡ Some p = sym (cond-false f.sync _ _ missing) ∙ is in
      absurd (cc)
]

-- at the closing place the unit number of a rendition is the number of its units
end_fragment : (sources : List Source) (r : ℕ) → r < length sources → (spot_in (map source_end_spot sources) r).fragment ≡ length (source_at sources r).facts
end_fragment [] r h = absurd (omega (arith, h))
end_fragment (s ∷ sources) zero h = refl
end_fragment (s ∷ sources) (suc r) h = end_fragment sources r (omega (arith, h))

-- the closing place is later than a place whose spots are at units that are there
closing_is_later : (sources : List Source) (p : Place) → AreAtUnits sources p.spots → is_later_place p (closing_place sources) ≡ true
closing_is_later sources p at =
    past-from_each p (closing_place sources) (length-map sources source_end_spot ∙ sym at.count)
    (λ r h. let here : r < length sources = omega (arith, h, at.count) in omega (arith, at.each r here, end_fragment sources r here))

-- ---- so the line has ended

-- a line over renditions that have all ended has ended, however many segments were removed
pub line_ends : (goal : LineGoal) (sources : List Source) (removed : ℕ) → list_all has_ended sources ≡ true
    → has_line_ended (live_of goal (places_of sources) removed) ≡ true
line_ends goal sources removed all =
    let found : List Place = filter_map (common_at sources) (first_facts sources) in
    let end : Place = closing_place sources in
    let before : All (λ p. is_later_place p end ≡ true) found =
    filter_map-all (common_at sources) (λ p. is_later_place p end ≡ true) no_facts (first_facts sources)
    (λ k p h is. closing_is_later sources p (common_at_units sources (get_or (first_facts sources) k no_facts) p is)) in
    let closing : closing_places sources ≡ end ∷ [] = cond-true (list_all has_ended sources) _ _ all in
    let none : Starts (λ p. is_later_place p end ≡ true) no_progress = record { start = λ o at. absurd (cc); best = λ b at. absurd (cc) } in
    let starts : Starts (λ p. is_later_place p end ≡ true) (full_progress goal found) =
    subst (λ (t : LineProgress). Starts (λ p. is_later_place p end ≡ true) t) (sym (whole-is_told goal found)) (all_starts (λ p. is_later_place p end ≡ true) goal 0 no_progress found before none) in
    let t : LineProgress = (live_of goal found 0).progress in
    let last : Closes (advanced_through goal 0 t (end ∷ [])) =
    ap (λ (x : LineProgress). is_closing x.line.segment_start) (progress-more goal 0 t end [] ∙ progress-none goal 0 (progress_after goal 0 t end))
    ∙ added_closes goal 0 t.line.segments t.line.segment_start t.best end refl starts.start starts.best in
    ap (λ (l : List Place). has_line_ended (live_of goal (found ++ l) 0)) closing
    ∙ ap has_line_ended (live-moves goal found (end ∷ []) 0 (omega arith))
    ∙ last
