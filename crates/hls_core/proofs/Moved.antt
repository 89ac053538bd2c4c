-- The renditions over which a cursor is advanced are those of the snapshot.
use Rattle.std.proofs.Common.{arith, ◌≡◌, ℕ, zero, suc, ◌+◌, ◌<◌, ◌≤◌, Bool, List, [], ◌∷◌, ◌++◌, Option, Some, None, length, map, drop, take, get_or, false, refl, sym, ap, subst, ◌∙◌, append-nil, Result, Ok, Err, IfOk, Global}
use Rattle.std.specs.declared.sync.Arc.{Arc}
use Rattle.std.specs.Prelude.{slice_get}
use Rattle.std.specs.List.{AllZip}
use Rattle.std.proofs.lemmas.List.{length-map, get_or-map, drop_all}
use Rattle.std.proofs.lemmas.Option.{same_Some}
use Rattle.hls_record.specs.RecordingData.{RecordingData}
use Rattle.hls_places_laws.specs.declared.place.Place.{Place}
use Rattle.hls_places_laws.specs.Sources.{Source, source_at, first_facts}
use Rattle.hls_places_laws.specs.Places.{places_after}
use Rattle.hls_places_laws.specs.SearchPositions.{CursorData, IsCursor}
use Rattle.hls_core.proofs.Cited.{side-at, length-sources_of, after-without, found-without, progress-none, progress-more, advanced-few_more, next-side, at_map, at_or}
use Rattle.hls_core_laws.specs.Config.{ConfigData}
use Rattle.hls_core_laws.specs.declared.rendition.Rendition.{Rendition}
use Rattle.hls_core_laws.specs.Places.{facts_of, is_finished, tolerance_of}
use Rattle.std.proofs.lemmas.Option.{slice_get_within}
use Rattle.hls_core.specs.declared.line_state.LineState.{LineState}
use Rattle.hls_core.specs.declared.rendition_state.RenditionState.{RenditionState}
use Rattle.hls_core.specs.Unbegun.{HasUnbegunRendition}
use Rattle.hls_places_laws.specs.Line.Live.{Live, live_after, live_after_all}
use Rattle.hls_core.specs.LineState.{IsSameLineState, IsAdvancedLineState, HasRoomFor}
use Rattle.hls_core.specs.RenditionStates.{lane_of, lane_from, sources_by}

-- the lane of a rendition has the units of its recording
lane_facts : (o : Option RecordingData) (finished : Bool) (rec : RecordingData) → Some rec ≡ o → rec.facts ≡ (lane_from o finished).facts
lane_facts None finished rec e = cc
lane_facts (Some r) finished rec e = ap (λ (x : RecordingData). x.facts) (same_Some rec r e)

-- the lane of a rendition without a recording has no units
lane_bare : (o : Option RecordingData) (finished : Bool) → o ≡ None → (lane_from o finished).facts ≡ []
lane_bare None finished e = refl
lane_bare (Some r) finished e = cc

-- the lane of a rendition is finished exactly if the rendition is
lane_end : (o : Option RecordingData) (finished : Bool) → finished ≡ (lane_from o finished).finished
lane_end None finished = refl
lane_end (Some r) finished = refl

-- if rendition r has begun, the search sees the first r + 1 renditions as the first r, and then r with its recording's units
module _ {X : Type 0} where
  pub next_source : (rendition_state : X → RenditionState) (xs : List X) (config : ConfigData) (r : ℕ) (x : X) (t : Rendition) (rec : RecordingData)
      → length config.renditions ≡ length xs → r < length xs → x ≡ get_or xs r x → t ≡ get_or config.renditions r t → (rendition_state x).recording ≡ Some rec
      → take (r + 1) (sources_by config (map rendition_state xs))
      ≡ take r (sources_by config (map rendition_state xs)) ++ record { facts = rec.facts; tolerance = t.tolerance; finished = (rendition_state x).finished } ∷ []
  next_source rendition_state xs config r x t rec count within at rendition begun =
      let rendition_states : List RenditionState = map rendition_state xs in
      let lanes = map lane_of rendition_states in
      let sides_count : length rendition_states ≡ length xs = length-map xs rendition_state in
      let lanes_count : length lanes ≡ length rendition_states = length-map rendition_states lane_of in
      let facts_count : length (map facts_of lanes) ≡ length lanes = length-map lanes facts_of in
      let tolerances_count : length (map tolerance_of config.renditions) ≡ length config.renditions = length-map config.renditions tolerance_of in
      let finished_count : length (map is_finished lanes) ≡ length lanes = length-map lanes is_finished in
      let lane_at : get_or lanes r (lane_of (rendition_state x)) ≡ lane_of (rendition_state x) =
      get_or-map lane_of rendition_states r (rendition_state x) (lane_of (rendition_state x)) (omega (arith, sides_count, within))
      ∙ ap lane_of (get_or-map rendition_state xs r x (rendition_state x) within ∙ ap rendition_state (sym at)) in
      let facts_at : get_or (map facts_of lanes) r [] ≡ rec.facts =
      get_or-map facts_of lanes r (lane_of (rendition_state x)) [] (omega (arith, lanes_count, sides_count, within))
      ∙ ap facts_of lane_at ∙ sym (lane_facts (rendition_state x).recording (rendition_state x).finished rec (sym begun)) in
      let tolerance_at : get_or (map tolerance_of config.renditions) r 0 ≡ t.tolerance =
      get_or-map tolerance_of config.renditions r t 0 (omega (arith, count, within)) ∙ ap tolerance_of (sym rendition) in
      let finished_at : get_or (map is_finished lanes) r false ≡ (rendition_state x).finished =
      get_or-map is_finished lanes r (lane_of (rendition_state x)) false (omega (arith, lanes_count, sides_count, within))
      ∙ ap is_finished lane_at ∙ sym (lane_end (rendition_state x).recording (rendition_state x).finished) in
      let next = next-side (map facts_of lanes) (map tolerance_of config.renditions) (map is_finished lanes)
      (omega (arith, tolerances_count, count, facts_count, lanes_count, sides_count)) (omega (arith, finished_count, facts_count)) r
      (omega (arith, facts_count, lanes_count, sides_count, within)) in
      let here : record { facts = get_or (map facts_of lanes) r []; tolerance = get_or (map tolerance_of config.renditions) r 0; finished = get_or (map is_finished lanes) r false }
      ≡ record { facts = rec.facts; tolerance = t.tolerance; finished = (rendition_state x).finished } =
      λ k. record { facts = facts_at k; tolerance = tolerance_at k; finished = finished_at k } in
      next
      ∙ ap (λ (s : Source). take r (sources_by config rendition_states) ++ s ∷ [])
      {x = record { facts = get_or (map facts_of lanes) r []; tolerance = get_or (map tolerance_of config.renditions) r 0; finished = get_or (map is_finished lanes) r false }}
      {y = record { facts = rec.facts; tolerance = t.tolerance; finished = (rendition_state x).finished }} here

-- the search sees as many renditions as there are rendition states
pub by_count : (config : ConfigData) (rendition_states : List RenditionState) → length config.renditions ≡ length rendition_states → length (sources_by config rendition_states) ≡ length rendition_states
by_count config rendition_states count =
    let lanes : length (map facts_of (map lane_of rendition_states)) ≡ length rendition_states =
    length-map (map lane_of rendition_states) facts_of ∙ length-map rendition_states lane_of in
    length-sources_of (map facts_of (map lane_of rendition_states)) (map tolerance_of config.renditions) (map is_finished (map lane_of rendition_states))
    (length-map config.renditions tolerance_of ∙ count ∙ sym lanes)
    (length-map (map lane_of rendition_states) is_finished ∙ length-map rendition_states lane_of ∙ sym lanes) ∙ lanes

-- the search sees as many renditions as there are shared rendition states
pub one_each : (config : ConfigData) (rendition_states : List (Arc RenditionState Global)) (found : List Source) → length config.renditions ≡ length rendition_states →
    found ≡ sources_by config (map (λ a. a.value) rendition_states) → length found ≡ length rendition_states
one_each config rendition_states found count is =
    let all : length (map (λ (a : Arc RenditionState Global). a.value) rendition_states) ≡ length rendition_states = length-map rendition_states (λ a. a.value) in
    ap length is ∙ by_count config (map (λ a. a.value) rendition_states) (count ∙ sym all) ∙ all

-- the search sees a rendition that hasn't begun, without units
bare : (config : ConfigData) (rendition_states : List RenditionState) → length config.renditions ≡ length rendition_states → (l : HasUnbegunRendition rendition_states) → (l.number < length (sources_by config rendition_states)) × ((source_at (sources_by config rendition_states) l.number).facts ≡ [])
bare config rendition_states count l =
    let lanes : length (map facts_of (map lane_of rendition_states)) ≡ length rendition_states =
    length-map (map lane_of rendition_states) facts_of ∙ length-map rendition_states lane_of in
    let tolerances : length (map tolerance_of config.renditions) ≡ length (map facts_of (map lane_of rendition_states)) =
    length-map config.renditions tolerance_of ∙ count ∙ sym lanes in
    let finished : length (map is_finished (map lane_of rendition_states)) ≡ length (map facts_of (map lane_of rendition_states)) =
    length-map (map lane_of rendition_states) is_finished ∙ length-map rendition_states lane_of ∙ sym lanes in
    let whole = length-sources_of (map facts_of (map lane_of rendition_states)) (map tolerance_of config.renditions) (map is_finished (map lane_of rendition_states)) tolerances finished in
    let rendition_state = side-at (map facts_of (map lane_of rendition_states)) (map tolerance_of config.renditions) (map is_finished (map lane_of rendition_states)) tolerances finished l.number in
    let at : slice_get (map facts_of (map lane_of rendition_states)) l.number ≡ Some (lane_of l.rendition_state).facts =
    at_map facts_of (map lane_of rendition_states) l.number (lane_of l.rendition_state) (at_map lane_of rendition_states l.number l.rendition_state l.at) in (
      omega (arith, whole, lanes, slice_get_within rendition_states l.number l.rendition_state l.at),
      rendition_state.facts_are ∙ at_or (map facts_of (map lane_of rendition_states)) l.number [] (lane_of l.rendition_state).facts at ∙ lane_bare l.rendition_state.recording l.rendition_state.finished l.none,
    )

-- the elements from index n on are the one at n and those after it
drop_at : (xs : List Place) (n : ℕ) (q : Place) → slice_get xs n ≡ Some q → drop n xs ≡ q ∷ drop (n + 1) xs
drop_at [] n q at = cc
drop_at (x ∷ xs) zero q at = let is : x ≡ q = cc in ap (λ y. y ∷ xs) is
drop_at (x ∷ xs) (suc n) q at =
    let step : suc n + 1 ≡ suc (n + 1) = omega arith in
    rw step (drop_at xs n q at)

-- the line after no more places is the same line
none_told : (live : Live) → live_after_all live [] ≡ live
none_told live = let same = progress-none live.line_goal live.removed live.progress in
    λ k. record { line_goal = live.line_goal; progress = same k; removed = live.removed; breaks = live.breaks }

-- the line after one more place and then the others is the line after all of them
told_on : (live : Live) (q : Place) (rest : List Place) → live_after_all (live_after live q) rest ≡ live_after_all live (q ∷ rest)
told_on live q rest = let same = sym (progress-more live.line_goal live.removed live.progress q rest) in
    λ k. record { line_goal = live.line_goal; progress = same k; removed = live.removed; breaks = live.breaks }

-- the line `now` after the places of `rest` is the first line after all places, and it has room for them
pub record IsTold (first : Live) (all : List Place) (now : Live) (rest : List Place) : Type 0 where
  pub same : live_after_all now rest ≡ live_after_all first all
  pub can : HasRoomFor now rest

-- the first line has all places before it
pub told_from : (first : Live) (all : List Place) → HasRoomFor first all → IsTold first all first all
told_from first all can = record { same = refl; can = can }

-- when a line takes place n of the rest, those from n + 1 on are left
pub told_next : (first : Live) (all : List Place) (now next : Live) (rest : List Place) (n : ℕ) (q : Place) → slice_get rest n ≡ Some q → IsTold first all now (drop n rest) → next ≡ live_after now q → IsTold first all next (drop (n + 1) rest)
told_next first all now next rest n q at t is =
    let split : drop n rest ≡ q ∷ drop (n + 1) rest = drop_at rest n q at in
    let whole = subst (λ (xs : List Place). IsTold first all now xs) split t in
    let few = advanced-few_more now.line_goal now.removed now.progress q in
    subst (λ (x : Live). IsTold first all x (drop (n + 1) rest)) (sym is) (record {
      same = told_on now q (drop (n + 1) rest) ∙ whole.same;
      can = record { room = omega (arith, whole.can.room, few); spots = λ k p there. whole.can.spots (suc k) p there };
    })

-- when no place is left, the line is the first line after all places
pub told_end : (first : Live) (all : List Place) (now : Live) (rest : List Place) (n : ℕ) → length rest ≤ n → IsTold first all now (drop n rest) → now ≡ live_after_all first all
told_end first all now rest n past t =
    let none : drop n rest ≡ [] = drop_all n rest past in
    sym (none_told now) ∙ ap (live_after_all now) (sym none) ∙ t.same

-- a line has room for the next place and those after it
pub told_here : (first : Live) (all : List Place) (now : Live) (rest : List Place) (n : ℕ) (q : Place) → slice_get rest n ≡ Some q → IsTold first all now (drop n rest) → HasRoomFor now (q ∷ drop (n + 1) rest)
told_here first all now rest n q at t = subst (λ (xs : List Place). HasRoomFor now xs) (drop_at rest n q at) t.can

-- if shared rendition states are equal one by one, the lists of them are equal
pub same_values : (xs ys : List (Arc RenditionState Global)) → AllZip (λ x y. y.value ≡ x.value) xs ys → map (λ a. a.value) ys ≡ map (λ a. a.value) xs
same_values [] [] same = refl
same_values [] (y ∷ ys) same = absurd same
same_values (x ∷ xs) [] same = absurd same
same_values (x ∷ xs) (y ∷ ys) same =
    ap (λ (s : RenditionState). s ∷ map (λ (a : Arc RenditionState Global). a.value) ys) same.0 ∙ ap (λ (ss : List RenditionState). x.value ∷ ss) (same_values xs ys same.1)

-- a line state that equals the old one has the same places, cursor and line
pub same_placed : (old p : LineState) → p ≡ old → IsSameLineState old p
same_placed old p is = subst (λ (x : LineState). IsSameLineState old x) (sym is) (record { places = refl; cursor = refl; line_is = refl })

-- if one property of a value implies another, and a result's value, if it has one, has the first, it has the second
pub when_ok : {T E : Type 0} {P Q : T → Type 0} (r : Result T E) → ((x : T) → P x → Q x) → IfOk r P → IfOk r Q
when_ok (Ok x) follows is = follows x is
when_ok (Err e) follows is = is

-- while some rendition hasn't begun, a line state that stays the same is advanced: there is no further place
pub placed_without : (config : ConfigData) (rendition_states : List RenditionState) (old p : LineState) → length config.renditions ≡ length rendition_states → HasUnbegunRendition rendition_states → IsCursor old.cursor.value (sources_by config rendition_states) → IsSameLineState old p → IsAdvancedLineState (sources_by config rendition_states) old p
placed_without config rendition_states old p count l fits same =
    let source = bare config rendition_states count l in
    let none : places_after (sources_by config rendition_states) old.cursor.value.done ≡ [] =
    after-without (sources_by config rendition_states) l.number source.0 source.1 old.cursor.value.done in
    let first : p.places.first ≡ old.places.first = ap (λ x. x.first) same.places in
    let items : p.places.items ≡ old.places.items ++ places_after (sources_by config rendition_states) old.cursor.value.done =
    ap (λ x. x.items) same.places ∙ sym (append-nil old.places.items) ∙ ap (λ (xs : List Place). old.places.items ++ xs) (sym none) in
    record {
      places = λ k. record { first = first k; items = items k };
      cursor = subst (λ (x : CursorData). IsCursor x (sources_by config rendition_states)) (sym same.cursor) fits;
      exhausted = found-without (sources_by config rendition_states) l.number source.0 source.1 (drop p.cursor.value.done (first_facts (sources_by config rendition_states)));
      line_is = same.line_is ∙ sym (none_told old.line.value) ∙ ap (live_after_all old.line.value) (sym none);
    }
