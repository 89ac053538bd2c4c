-- The renditions of a renewed channel, as the search for common places sees them: those of the old one from the cut on. So its line has
-- the segments from there, and has ended if the old one has.
use Rattle.std.proofs.Common.{◌≡◌, ◌∙◌, ℕ, zero, suc, ◌+◌, ◌-◌, ◌<◌, ◌≤◌, Bool, true, false, List, [], ◌∷◌, ◌++◌, length, map, drop, get_or, Option, Some, None, refl, sym, ap, subst, inl, inr, arith, All, append-nil}
use Rattle.std.specs.Prelude.{◌&&◌, nat_lt, slice_get, option_map}
use Rattle.std.specs.List.{filter_map, list_all}
use Rattle.std.proofs.lemmas.Bool.{cases_Bool, cond-true, cond-false, lt-ltb}
use Rattle.std.proofs.lemmas.List.{length-drop, length-map}
use Rattle.std.proofs.lemmas.Option.{slice_get_within, get_or_from_slice_get}
use Rattle.hls_media_laws.specs.declared.facts.Facts.{Facts}
use Rattle.hls_check_tables.specs.declared.spot.Spot.{Spot}
use Rattle.hls_check_tables.specs.Tables.{spot_in}
use Rattle.hls_places_laws.specs.declared.place.Place.{Place}
use Rattle.hls_places_laws.specs.Sources.{Source, source_at, first_facts, no_facts}
use Rattle.hls_places_laws.specs.Places.{spots, place_of, common_at, has_ended, closing_places, places_of}
use Rattle.hls_places_laws.specs.FromPlace.{IsPlaceFrom, KeepsPlaces, PlacesFromAPlaceAgree, PlacesNeverGoBack, place_since, source_since, sources_since}
use Rattle.hls_places_laws.specs.declared.line.live_segment.LiveSegment.{LiveSegment}
use Rattle.hls_places_laws.specs.declared.line.segment_start.SegmentStart.{SegmentStart}
use Rattle.hls_places_laws.specs.Line.Cuts.{line_of}
use Rattle.hls_places_laws.specs.Line.FromCut.{ContinuesFrom, LineFromCutAgrees, segment_since, segments_since}
use Rattle.hls_places_laws.specs.Line.Live.{is_closing, has_ended as has_line_ended}
use Rattle.hls_places_laws.specs.Line.Origins.{segments_over}
use Rattle.hls_places_laws.proofs.Callers.{all-snoc, closing_place, filter_map-all, front-stands, since_at, since_long}
use Rattle.hls_core_laws.specs.Config.{ConfigData, without_base}
use Rattle.hls_core_laws.specs.Channel.{Lane}
use Rattle.hls_core_laws.specs.State.{State, channel}
use Rattle.hls_core_laws.specs.IsState.{IsState}
use Rattle.hls_core_laws.specs.Line.{line, line_goal_of}
use Rattle.hls_core_laws.specs.Places.{floors, places, sources, tolerance_of}
use Rattle.hls_core_laws.proofs.Callers.{IsOf, floors-count, lanes_count, some_at, source_of, sources_count, spots-count, states_are_timed}
use Rattle.hls_playlists_laws.specs.Handovers.{unit_at as cut_unit}
use Rattle.hls_playlists_laws.proofs.Callers.{closed-reached, whole}
use Rattle.hls_renewal.specs.declared.line_cut.LineCut.{LineCut}
use Rattle.hls_renewal.specs.Cuts.{IsLineCut}
use Rattle.hls_renewal.specs.Renewals.{Renews, renewal_events, renewal_start}
use Rattle.hls_renewal.proofs.EndedLines.{AreAtUnits, common_at_units, line_ends}
use Rattle.hls_renewal.proofs.LineCuts.{is_line_cut}
use Rattle.hls_renewal.proofs.RenewedLanes.{IsLaneFrom, config_after_all, renewed_lane_at}

-- ---- a state's line has ended exactly if its renditions have

-- if a state's line begins its open segment at the closing place, all its renditions have ended
over_by : (s : State) (o : Option SegmentStart) → IsState s → (whole s).line.segment_start ≡ o → is_closing o ≡ true → list_all has_ended (sources s) ≡ true
over_by s None state is over = absurd (cc)
over_by s (Some o) state is over = ((closed-reached s state).segment_start o is).over over

-- the line of a state has ended exactly if all its renditions have
pub line_has_ended : (s : State) → IsState s → has_line_ended (line s) ≡ list_all has_ended (sources s)
line_has_ended s state = elim (cases_Bool (list_all has_ended (sources s))) [
  | inl all ↦ line_ends (line_goal_of s.config) (sources s) (line s).removed all ∙ sym all
  | inr some ↦ elim (cases_Bool (has_line_ended (line s))) [
    | inl over ↦ absurd (let all = over_by s (whole s).line.segment_start state refl over in cc)
    | inr unended ↦ unended ∙ sym some
  ]
]

-- ---- a place that isn't the closing one is at units

-- a place is the closing one, or its spots are at units that are there
AreAtUnitsIfOpen : List Source → Place → Type 0
AreAtUnitsIfOpen xs p = p.closing ≡ false → AreAtUnits xs p.spots

-- each common place is the closing one, or has its spots at units that are there
all_at_units : (xs : List Source) → All (AreAtUnitsIfOpen xs) (places_of xs)
unfolding AreAtUnitsIfOpen
all_at_units xs =
    let found : List Place = filter_map (common_at xs) (first_facts xs) in
    let each : All (AreAtUnitsIfOpen xs) found =
    filter_map-all (common_at xs) (AreAtUnitsIfOpen xs) no_facts (first_facts xs)
    (λ k p h is. λ unended. common_at_units xs (get_or (first_facts xs) k no_facts) p is) in
    elim (cases_Bool (list_all has_ended xs)) [
      | inl all ↦
          let closing : closing_places xs ≡ closing_place xs ∷ [] = cond-true (list_all has_ended xs) _ _ all in
          subst (λ (l : List Place). All (AreAtUnitsIfOpen xs) (found ++ l)) (sym closing)
          (all-snoc (AreAtUnitsIfOpen xs) found (closing_place xs) each (λ unended. absurd (cc)))
      | inr not ↦
          let closing : closing_places xs ≡ [] = cond-false (list_all has_ended xs) _ _ not in
          subst (λ (l : List Place). All (AreAtUnitsIfOpen xs) (found ++ l)) (sym closing)
          (subst (λ (l : List Place). All (AreAtUnitsIfOpen xs) l) (sym (append-nil found)) each)
    ]

-- a common place that isn't the closing one has its spots at units that are there
place_at_units : (xs : List Source) (k : ℕ) (p : Place) → slice_get (places_of xs) k ≡ Some p → p.closing ≡ false → AreAtUnits xs p.spots
unfolding AreAtUnitsIfOpen
place_at_units xs k p at unended =
    let here : AreAtUnitsIfOpen xs (get_or (places_of xs) k p) = all_at_units xs k p (slice_get_within (places_of xs) k p at) in
    let same : get_or (places_of xs) k p ≡ p = get_or_from_slice_get (places_of xs) k p p at in
    subst (λ (q : Place). AreAtUnitsIfOpen xs q) same here unended

-- ---- renditions from such a place have ended if they had

-- if each spot of a cut is at a unit that is there, the renditions from the cut on have ended exactly if they had before
ended_since : (cut : List Spot) (xs : List Source) → length cut ≡ length xs → ((r : ℕ) → r < length xs → (spot_in cut r).fragment < length (source_at xs r).facts)
    → list_all has_ended (sources_since cut xs) ≡ list_all has_ended xs
ended_since [] [] long before = refl
ended_since [] (x ∷ xs) long before = absurd (omega (arith, long))
ended_since (c ∷ cut) [] long before = absurd (omega (arith, long))
ended_since (c ∷ cut) (x ∷ xs) long before =
    let here : c.fragment < length x.facts = before 0 (omega arith) in
    let left : 0 < length (drop c.fragment x.facts) = omega (arith, here, length-drop c.fragment x.facts) in
    let same : nat_lt 0 (length (drop c.fragment x.facts)) ≡ nat_lt 0 (length x.facts) =
    lt-ltb 0 (length (drop c.fragment x.facts)) left ∙ sym (lt-ltb 0 (length x.facts) (omega (arith, here))) in
    ap (λ (b : Bool). (x.finished && b) && list_all has_ended (sources_since cut xs)) same
    ∙ ap (λ (b : Bool). has_ended x && b) (ended_since cut xs (omega (arith, long)) (λ r h. before (suc r) (omega (arith, h))))

-- ---- the renditions of a renewed channel

-- no end of a segment precedes the cut
abbrev pub AreFromCut : Place → List LiveSegment → Type 0
AreFromCut cut segments = (k : ℕ) (x : LiveSegment) → slice_get segments k ≡ Some x → IsPlaceFrom cut x.from × IsPlaceFrom cut x.to

-- two lists of renditions are equal if they have the same length and equal elements
same_sources : (xs ys : List Source) → length xs ≡ length ys → ((r : ℕ) → r < length xs → source_at xs r ≡ source_at ys r) → xs ≡ ys
same_sources [] [] long each = refl
same_sources [] (y ∷ ys) long each = absurd (omega (arith, long))
same_sources (x ∷ xs) [] long each = absurd (omega (arith, long))
same_sources (x ∷ xs) (y ∷ ys) long each =
    ap (λ (z : Source). z ∷ xs) (each 0 (omega arith))
    ∙ ap (λ (zs : List Source). y ∷ zs) (same_sources xs ys (omega (arith, long)) (λ r h. each (suc r) (omega (arith, h))))

-- a rendition whose lane is another one from the cut's unit on is that rendition from the cut on
source_from : (x y : Source) (l m : Lane) (n tolerance : ℕ) (cut : Spot) → IsOf x l tolerance → IsOf y m tolerance → IsLaneFrom n l m → cut.fragment ≡ n → y ≡ source_since cut x
source_from x y l m n tolerance cut of_l of_m from number =
    let facts : y.facts ≡ drop cut.fragment x.facts =
    of_m.facts ∙ from.facts ∙ ap (λ (k : ℕ). drop k l.facts) (sym number) ∙ ap (λ (fs : List Facts). drop cut.fragment fs) (sym of_l.facts) in
    let tolerances : y.tolerance ≡ x.tolerance = of_m.tolerance_is ∙ sym of_l.tolerance_is in
    let over : y.finished ≡ x.finished = of_m.finished ∙ from.finished ∙ sym of_l.finished in
    λ k. record { facts = facts k; tolerance = tolerances k; finished = over k }

-- channel b continues channel a at a cut: with the same configuration but for its base, and each rendition from the cut on
pub record IsContinued (a b : State) (cut : LineCut) : Type 0 where
  pub is_cut : IsLineCut a cut
  pub config : without_base b.config ≡ without_base a.config
  pub lanes : (r : ℕ) (l m : Lane) → slice_get (channel a).lanes r ≡ Some l → slice_get (channel b).lanes r ≡ Some m → IsLaneFrom (cut_unit cut.place r) l m

-- a renewed channel continues the old one at the cut
pub renewed : (a b : State) (renews : Renews a b) → IsState a → IsContinued a b (renews.cut)
renewed a b renews state = record {
  is_cut = is_line_cut a (renews.cut) state renews.first;
  config = ap (λ (s : State). without_base s.config) renews.is ∙ ap without_base (config_after_all (renewal_start a (renews.cut)) (renewal_events a (renews.cut)));
  lanes = renewed_lane_at a b renews state;
}

module _ (a b : State) (cut : LineCut) (on : IsContinued a b cut) (state : IsState a) where
  -- the cut has a spot for each rendition
  pub spots_long : length (cut.place).spots ≡ length (sources a)
  spots_long =
      let stands = front-stands (line_goal_of a.config) (places a) cut.segments cut.place ((on.is_cut).is_cut).front in
      spots-count a state stands.number cut.place stands.there ∙ floors-count a

  -- both channels have the same number of renditions
  pub same_lanes : length (channel b).lanes ≡ length (channel a).lanes
  same_lanes = lanes_count b.config b.log ∙ ap (λ (c : ConfigData). length c.renditions) on.config ∙ sym (lanes_count a.config a.log)

  -- the renditions of the second channel are those of the first from the cut on
  pub renewed_sources : sources b ≡ sources_since (cut.place).spots (sources a)
  renewed_sources =
      let spots = (cut.place).spots in
      let long = since_long spots (sources a) spots_long in
      same_sources (sources b) (sources_since spots (sources a)) (omega (arith, sources_count b, same_lanes, sources_count a, long)) (λ r h.
      let inside : r < length (sources a) = omega (arith, h, sources_count b, same_lanes, sources_count a) in
      let l = some_at (channel a).lanes r (omega (arith, inside, sources_count a)) in
      let m = some_at (channel b).lanes r (omega (arith, h, sources_count b)) in
      let tolerance : ℕ = get_or (map tolerance_of a.config.renditions) r 0 in
      let of_m : IsOf (source_at (sources b) r) m.0 tolerance =
      subst (λ (c : ConfigData). IsOf (source_at (sources b) r) m.0 (get_or (map tolerance_of c.renditions) r 0)) on.config (source_of b r m.0 m.1) in
      source_from (source_at (sources a) r) (source_at (sources b) r) l.0 m.0 (cut_unit cut.place r) tolerance (spot_in spots r)
      (source_of a r l.0 l.1) of_m (on.lanes r l.0 m.0 l.1 m.1) refl
      ∙ sym (since_at spots (sources a) r spots_long inside))

  -- the line of the second channel has ended exactly if that of the first has
  pub ended_alike : IsState b → has_line_ended (line b) ≡ has_line_ended (line a)
  ended_alike state_b =
      let spots = (cut.place).spots in
      let stands = front-stands (line_goal_of a.config) (places a) cut.segments cut.place ((on.is_cut).is_cut).front in
      let units = place_at_units (sources a) stands.number cut.place stands.there ((on.is_cut).is_cut).not_ended in
      line_has_ended b state_b ∙ ap (λ (xs : List Source). list_all has_ended xs) renewed_sources
      ∙ ended_since spots (sources a) spots_long units.each ∙ sym (line_has_ended a state)

  -- the places of the second channel are those of the first from the cut on, and so are its segments, each counted from the cut
  pub places_from_cut : PlacesFromAPlaceAgree → PlacesNeverGoBack → LineFromCutAgrees
      → (k : ℕ) × (slice_get (places a) k ≡ Some cut.place) × (places b ≡ map (place_since (cut.place).spots) (drop k (places a)))
      × (segments_over (line_goal_of b.config) (sources b) ≡ segments_since (cut.place).spots (drop cut.segments (segments_over (line_goal_of a.config) (sources a))))
      × AreFromCut cut.place (drop cut.segments (segments_over (line_goal_of a.config) (sources a)))
  places_from_cut from_place in_row from_cut =
      let spots = (cut.place).spots in
      let timed = states_are_timed a state in
      let here : ContinuesFrom (line_goal_of a.config) (places a) cut.segments cut.place =
      from_cut (line_goal_of a.config) (places a) cut.segments cut.place (in_row (sources a) timed) ((on.is_cut).is_cut).within ((on.is_cut).is_cut).front in
      let kept : KeepsPlaces (sources a) here.number cut.place = from_place (sources a) timed here.number cut.place here.there ((on.is_cut).is_cut).not_ended in
      let mine : places b ≡ map (place_since spots) (drop here.number (places a)) = ap places_of renewed_sources ∙ kept.places in (
        here.number,
        here.there,
        mine,
        ap (λ (c : ConfigData). (line_of (line_goal_of c) (places b)).segments) on.config
            ∙ ap (λ (ps : List Place). (line_of (line_goal_of a.config) ps).segments) mine
            ∙ here.segments,
        here.after_cut,
      )

-- there are as many segments when they are counted from a cut
pub since_count : (cut : List Spot) (segments : List LiveSegment) → length (segments_since cut segments) ≡ length segments
since_count cut [] = refl
since_count cut (s ∷ segments) = ap suc (length-map segments (segment_since cut))
