-- A snapshot's parts stay consistent: at the opening, and when one rendition state replaces another.
use Rattle.std.proofs.Common.{◌≡◌, ℕ, suc, ◌+◌, ◌*◌, ◌<◌, ◌≤◌, Bool, true, false, List, [], ◌∷◌, ◌++◌, Option, Some, None, length, map, get_or, refl, sym, ap, subst, inl, inr, ◌∙◌, arith, length-append, Vec, Global}
use Rattle.std.specs.declared.sync.Arc.{Arc}
use Rattle.std.specs.Prelude.{slice_get, slice_set, if◌then◌else◌}
use Rattle.std.specs.List.{filter_map, cons_option, list_all}
use Rattle.hls_blocks.specs.Numbered.{next_of, list_limit}
use Rattle.hls_places_laws.specs.declared.place.Place.{Place}
use Rattle.hls_places_laws.specs.Sources.{Source, source_at, sources_of, first_facts}
use Rattle.hls_places_laws.specs.Places.{places_of, places_after, common_at, closing_places, has_ended, source_end_spot}
use Rattle.hls_places_laws.specs.Order.{no_place}
use Rattle.hls_core.proofs.Cited.{places-ordered, continues, after-without, found-without, channel_advanced, advanced_state, line_few, line_goes_on, line_slides, line_stays, sources_slide, sources_grow, sources_count, source_of, lanes_count, at_map, at_set, some_at, mapped_at, length_set, channel_from-snoc, units_are_logged, states_are_timed, first_is_state, first-cursor}
use Rattle.std.proofs.lemmas.Option.{slice_get-get_or}
use Rattle.hls_places_laws.specs.Line.Live.{Live, live_of, live_after_all, without_front}
use Rattle.hls_places_laws.specs.Line.Progress.{advanced_through}
use Rattle.hls_core_laws.specs.declared.event.Event.TheVariants.{Slide}
use Rattle.hls_core_laws.specs.Line.{line_goal_of, line}
use Rattle.hls_core_laws.specs.Outcome.{New, outcome_of}
use Rattle.hls_core_laws.specs.Moves.{entry_of, state_with_entry}
use Rattle.std.proofs.lemmas.Option.{slice_get_within}
use Rattle.hls_places_laws.specs.SearchPositions.{CursorData, first_cursor, IsCursor, IsExhausted}
use Rattle.hls_places_laws.specs.Growth.{Continues as PlacesContinue}
use Rattle.hls_core_laws.specs.Places.{facts_of, is_finished, tolerance_of, sources, places}
use Rattle.std.proofs.lemmas.List.{map-set, length-map}
use Rattle.hls_core_laws.specs.declared.event.Entry.{Entry}
use Rattle.hls_core_laws.specs.declared.rendition.Rendition.{Rendition}
use Rattle.hls_core_laws.specs.Config.{ConfigData, IsConfig}
use Rattle.hls_core_laws.specs.Channel.{Channel, Lane, no_lane, fresh_lane, channel_after, first_channel, channel_from}
use Rattle.hls_core_laws.specs.State.{State, no_bytes, channel}
use Rattle.hls_core_laws.specs.IsState.{IsState}
use Rattle.hls_core_laws.specs.Runs.{first_state, no_bytes_of}
use Rattle.hls_core.specs.declared.rendition_state.RenditionState.{RenditionState}
use Rattle.hls_core.specs.declared.snapshot.Snapshot.TheInside.{Inside}
use Rattle.hls_core.specs.RenditionStates.{lane_of, held_of, fresh_rendition_state, sources_by, HasRenditionState, HasValidRecording, with_rendition, MayReplaceRendition, MayTrim}
use Rattle.hls_core.specs.declared.line_state.LineState.{LineState}
use Rattle.hls_core.specs.LineState.{IsFirstLineState, IsSameLineState, HasLine, IsAdvancedLineState, HasRoomFor}
use Rattle.hls_core.specs.Model.{rendition_states_of, model_of, inside_after, IsSoundSnapshot}
use Rattle.hls_check_tables.specs.Tables.{rendition_limit}

-- a list is at least as long as a filtered and mapped one
filtered : {X Y : Type 0} (f : X → Option Y) (xs : List X) → length (filter_map f xs) ≤ length xs
filtered f [] = omega arith
filtered f (x ∷ xs) = elim (f x) as (λ o. length (cons_option o (filter_map f xs)) ≤ suc (length xs)) [
  | None ↦ omega (arith, filtered f xs)
  | Some y ↦ omega (arith, filtered f xs)
]

-- there is at most one closing place
closed : (b : Bool) (p : Place) → length (if b then p ∷ [] else []) ≤ 1
closed true p = omega arith
closed false p = omega arith

-- a state has at most one more common place than a log may have entries
places_few : (s : State) → IsState s → length (places s) ≤ 4194305
places_few s state =
    let lane_at = some_at (channel s).lanes 0 (omega (arith, lanes_count s.config s.log, state.configured.renditions.some)) in
    let facts : length (first_facts (sources s)) ≡ length lane_at.0.facts = ap length (source_of s 0 lane_at.0 lane_at.1).facts in
    let found = filtered (common_at (sources s)) (first_facts (sources s)) in
    let end = closed (list_all has_ended (sources s)) (record { spots = map source_end_spot (sources s); closing = true }) in
    omega (arith, facts, found, end, state.few, units_are_logged s.config s.log state.legal 0 lane_at.0 lane_at.1, length-append (filter_map (common_at (sources s)) (first_facts (sources s))) (closing_places (sources s)))

-- a place of a state has a spot
some_spots : (s : State) → IsState s → (k : ℕ) (p : Place) → slice_get (places s) k ≡ Some p → 0 < length p.spots
some_spots s state k p at =
    let are = states_are_timed s state in
    let below = slice_get_within (places s) k p at in
    let here = (places-ordered (sources s) are).each k no_place below in
    let same : get_or (places s) k no_place ≡ p = let there = slice_get-get_or (places s) k no_place below in cc in
    omega (arith, are.some, here.place.count, ap (λ (q : Place). length q.spots) same)

-- an element of the second of two joined lists has its index plus the length of the first
at_behind : (xs ys : List Place) (k : ℕ) (p : Place) → slice_get ys k ≡ Some p → slice_get (xs ++ ys) (length xs + k) ≡ Some p
at_behind [] ys k p at = let same : 0 + k ≡ k = omega arith in rw same at
at_behind (x ∷ xs) ys k p at =
    let same : suc (length xs) + k ≡ suc (length xs + k) = omega arith in
    rw same (at_behind xs ys k p at)

-- what is needed to advance a snapshot's cursor over these renditions: it fits, and list and line have room for the further places
pub record Ahead (i : Inside) (config : ConfigData) (rendition_states : List RenditionState) : Type 0 where
  pub cursor : IsCursor i.line_state.value.cursor.value (sources_by config rendition_states)
  pub room : next_of i.line_state.value.places + length (places_after (sources_by config rendition_states) i.line_state.value.cursor.value.done) < list_limit
  pub count : length config.renditions ≡ length rendition_states
  pub some : 1 ≤ length rendition_states
  pub few : length rendition_states ≤ rendition_limit
  pub progress : HasRoomFor i.line_state.value.line.value (places_after (sources_by config rendition_states) i.line_state.value.cursor.value.done)

-- with a replaced rendition state, the search for common places sees the renditions of the state with that rendition state
sources_put : (i : Inside) (entry : Entry) (r : ℕ) (rendition_state : RenditionState) → IsSoundSnapshot i → MayReplaceRendition (model_of i) entry r rendition_state → sources_by i.config (slice_set (rendition_states_of i) r rendition_state) ≡ sources (with_rendition (model_of i) entry r rendition_state)
sources_put i entry r rendition_state kept take =
    let now : channel (with_rendition (model_of i) entry r rendition_state) ≡ channel_after entry.event (channel (model_of i)) =
    channel_from-snoc (first_channel i.config) i.log.items entry in
    let lanes : map lane_of (slice_set (rendition_states_of i) r rendition_state) ≡ (channel (with_rendition (model_of i) entry r rendition_state)).lanes =
    map-set lane_of (rendition_states_of i) r rendition_state ∙ ap (λ (ls : List Lane). slice_set ls r (lane_of rendition_state)) kept.lanes ∙ sym take.lanes
    ∙ ap (λ (ch : Channel). ch.lanes) (sym now) in
    ap (λ (ls : List Lane). sources_of (map facts_of ls) (map tolerance_of i.config.renditions) (map is_finished ls)) lanes

-- if a rendition may be replaced, the common places of the new state are the old ones and those after the cursor, which still fits
moved : (i : Inside) (entry : Entry) (r : ℕ) (rendition_state : RenditionState) → IsSoundSnapshot i → MayReplaceRendition (model_of i) entry r rendition_state → PlacesContinue (sources (model_of i)) (sources (with_rendition (model_of i) entry r rendition_state)) i.line_state.value.cursor.value
moved i entry r rendition_state kept take =
    continues (sources (model_of i)) (sources (with_rendition (model_of i) entry r rendition_state)) i.line_state.value.cursor.value
    (sources_grow (model_of i) (with_rendition (model_of i) entry r rendition_state) take.valid take.continues) take.live kept.cursor kept.exhausted

-- if a rendition may be replaced in a sound snapshot, the cursor can be advanced over the renditions after that
ahead_put : (i : Inside) (entry : Entry) (r : ℕ) (rendition_state : RenditionState) → IsSoundSnapshot i → MayReplaceRendition (model_of i) entry r rendition_state → Ahead i i.config (slice_set (rendition_states_of i) r rendition_state)
ahead_put i entry r rendition_state kept take =
    let on = moved i entry r rendition_state kept take in
    let is = sources_put i entry r rendition_state kept take in
    let s : State = with_rendition (model_of i) entry r rendition_state in
    let few = places_few s take.valid in
    let progress : length i.line_state.value.places.items ≡ length (places (model_of i)) = ap (λ p. length p.items) kept.places in
    let zero_first : i.line_state.value.places.first ≡ 0 = ap (λ p. p.first) kept.places in
    let whole : length (places s) ≡ length (places (model_of i)) + length (places_after (sources s) i.line_state.value.cursor.value.done) =
    ap length on.places ∙ length-append (places (model_of i)) (places_after (sources s) i.line_state.value.cursor.value.done) in
    let room : next_of i.line_state.value.places + length (places_after (sources s) i.line_state.value.cursor.value.done) < list_limit = omega arith in
    let told_room : i.line_state.value.line.value.removed + length i.line_state.value.line.value.progress.line.segments + 2 * length (places_after (sources s) i.line_state.value.cursor.value.done) + 1 < list_limit =
    omega (arith, few, whole, line_few (model_of i) kept.valid, ap (λ (l : Live). l.removed) kept.line_is, ap (λ (l : Live). length l.progress.line.segments) kept.line_is) in
    let spots : (k : ℕ) (p : Place) → slice_get (places_after (sources s) i.line_state.value.cursor.value.done) k ≡ Some p → 0 < length p.spots =
    λ k p at. some_spots s take.valid (length (places (model_of i)) + k) p
    (subst (λ (ps : List Place). slice_get ps (length (places (model_of i)) + k) ≡ Some p) (sym on.places) (at_behind (places (model_of i)) (places_after (sources s) i.line_state.value.cursor.value.done) k p at)) in
    let rendition_states : length (slice_set (rendition_states_of i) r rendition_state) ≡ length i.config.renditions =
    length_set (rendition_states_of i) r rendition_state ∙ sym (length-map (rendition_states_of i) lane_of) ∙ ap length kept.lanes ∙ lanes_count i.config i.log.items in
    let rs = kept.valid.configured.renditions in
    record {
      cursor = subst (λ (x : List Source). IsCursor i.line_state.value.cursor.value x) (sym is) on.cursor;
      room = subst (λ (x : List Source). next_of i.line_state.value.places + length (places_after x i.line_state.value.cursor.value.done) < list_limit) (sym is) room;
      count = sym rendition_states;
      some = omega (arith, rs.some);
      few = omega (arith, rs.few);
      progress = subst (λ (x : List Source). HasRoomFor i.line_state.value.line.value (places_after x i.line_state.value.cursor.value.done)) (sym is) (record { room = told_room; spots = spots });
    }

-- the same, given the state that the snapshot represents, and the configuration and the rendition states that it then has
pub ahead : (i : Inside) (s : State) (entry : Entry) (r : ℕ) (rendition_state : RenditionState) (config : ConfigData) (rendition_states : List RenditionState) → model_of i ≡ s → IsSoundSnapshot i → MayReplaceRendition s entry r rendition_state → config ≡ i.config → rendition_states ≡ slice_set (rendition_states_of i) r rendition_state → Ahead i config rendition_states
ahead i s entry r rendition_state config rendition_states is kept take same_config same_sides =
    let take_seen = subst (λ (x : State). MayReplaceRendition x entry r rendition_state) (sym is) take in
    subst (λ (c : ConfigData). Ahead i c rendition_states) (sym same_config)
    (subst (λ (xs : List RenditionState). Ahead i i.config xs) (sym same_sides) (ahead_put i entry r rendition_state kept take_seen))

-- parts with one more entry, and with this rendition state at number r, represent the state with both
seen_with : (i n : Inside) (entry : Entry) (r : ℕ) (rendition_state : RenditionState) → n.config ≡ i.config → n.log ≡ record { first = i.log.first; items = i.log.items ++ entry ∷ [] } → rendition_states_of n ≡ slice_set (rendition_states_of i) r rendition_state → model_of n ≡ with_rendition (model_of i) entry r rendition_state
seen_with i n entry r rendition_state config log_is rendition_states =
    let log : n.log.items ≡ i.log.items ++ entry ∷ [] = ap (λ l. l.items) log_is in
    let bytes : map held_of (rendition_states_of n) ≡ slice_set (map held_of (rendition_states_of i)) r (held_of rendition_state) =
    ap (map held_of) rendition_states ∙ map-set held_of (rendition_states_of i) r rendition_state in
    λ k. record { config = config k; log = log k; bytes = bytes k }

-- the channel of such parts is the channel before, after the entry's event
with_entry : (i n : Inside) (entry : Entry) (r : ℕ) (rendition_state : RenditionState) → model_of n ≡ with_rendition (model_of i) entry r rendition_state → channel (model_of n) ≡ channel_after entry.event (channel (model_of i))
with_entry i n entry r rendition_state is = ap channel is ∙ channel_from-snoc (first_channel i.config) i.log.items entry

-- the lanes of such parts are those of their rendition states, if the event changes the lanes as the rendition state does
lanes_with : (i n : Inside) (entry : Entry) (r : ℕ) (rendition_state : RenditionState) → IsSoundSnapshot i → (channel_after entry.event (channel (model_of i))).lanes ≡ slice_set (channel (model_of i)).lanes r (lane_of rendition_state) →
    rendition_states_of n ≡ slice_set (rendition_states_of i) r rendition_state → model_of n ≡ with_rendition (model_of i) entry r rendition_state → map lane_of (rendition_states_of n) ≡ (channel (model_of n)).lanes
lanes_with i n entry r rendition_state kept lanes rendition_states is =
    ap (map lane_of) rendition_states ∙ map-set lane_of (rendition_states_of i) r rendition_state ∙ ap (λ (ls : List Lane). slice_set ls r (lane_of rendition_state)) kept.lanes ∙ sym lanes
    ∙ ap (λ (ch : Channel). ch.lanes) (sym (with_entry i n entry r rendition_state is))

-- in such parts as many segments are removed as before, if the event removes none
removed_with : (i n : Inside) (entry : Entry) (r : ℕ) (rendition_state : RenditionState) → (channel_after entry.event (channel (model_of i))).removed ≡ (channel (model_of i)).removed →
    model_of n ≡ with_rendition (model_of i) entry r rendition_state → (channel (model_of n)).removed ≡ (channel (model_of i)).removed
removed_with i n entry r rendition_state removed is = ap (λ (ch : Channel). ch.removed) (with_entry i n entry r rendition_state is) ∙ removed

-- the parts n are the parts i with one more entry, this rendition state at number r, and the places advanced
pub record Puts (i n : Inside) (entry : Entry) (r : ℕ) (rendition_state : RenditionState) : Type 0 where
  pub config : n.config ≡ i.config
  pub log : n.log ≡ record { first = i.log.first; items = i.log.items ++ entry ∷ [] }
  pub rendition_states : rendition_states_of n ≡ slice_set (rendition_states_of i) r rendition_state
  pub line_state : IsAdvancedLineState (sources_by n.config (rendition_states_of n)) i.line_state.value n.line_state.value

-- such parts represent the state with the entry and the rendition state
seen_puts : (i n : Inside) (entry : Entry) (r : ℕ) (rendition_state : RenditionState) → Puts i n entry r rendition_state → model_of n ≡ with_rendition (model_of i) entry r rendition_state
seen_puts i n entry r rendition_state p =
    seen_with i n entry r rendition_state p.config p.log p.rendition_states

-- if the recordings of the old rendition states and of the replacing one are valid, so are those of the new ones
good_puts : (i n : Inside) (entry : Entry) (r : ℕ) (rendition_state : RenditionState) → IsSoundSnapshot i → HasValidRecording rendition_state → rendition_states_of n ≡ slice_set (rendition_states_of i) r rendition_state → (q : ℕ) (x : RenditionState) → slice_get (rendition_states_of n) q ≡ Some x → HasValidRecording x
good_puts i n entry r rendition_state kept good rendition_states q x at =
    let there : slice_get (slice_set (rendition_states_of i) r rendition_state) q ≡ Some x = subst (λ (xs : List RenditionState). slice_get xs q ≡ Some x) rendition_states at in
    elim (at_set (rendition_states_of i) r rendition_state q x there) [
      | inl here ↦ subst (λ (y : RenditionState). HasValidRecording y) here.1 good
      | inr other ↦ kept.good q x other.1
    ]

-- such parts of a sound snapshot are a sound snapshot, if the rendition may be replaced
kept_puts : (i n : Inside) (entry : Entry) (r : ℕ) (rendition_state : RenditionState) → IsSoundSnapshot i → MayReplaceRendition (model_of i) entry r rendition_state → Puts i n entry r rendition_state → IsSoundSnapshot n
kept_puts i n entry r rendition_state kept take p =
    let is : model_of n ≡ with_rendition (model_of i) entry r rendition_state = seen_puts i n entry r rendition_state p in
    let lanes : map lane_of (rendition_states_of n) ≡ (channel (model_of n)).lanes = lanes_with i n entry r rendition_state kept take.lanes p.rendition_states is in
    let by : sources_by n.config (rendition_states_of n) ≡ sources (model_of n) =
    ap (λ (ls : List Lane). sources_of (map facts_of ls) (map tolerance_of n.config.renditions) (map is_finished ls)) lanes in
    let on : PlacesContinue (sources (model_of i)) (sources (model_of n)) i.line_state.value.cursor.value =
    subst (λ (s : State). PlacesContinue (sources (model_of i)) (sources s) i.line_state.value.cursor.value) (sym is) (moved i entry r rendition_state kept take) in
    let first : n.line_state.value.places.first ≡ 0 = ap (λ l. l.first) p.line_state.places ∙ ap (λ l. l.first) kept.places in
    let items : n.line_state.value.places.items ≡ places (model_of n) =
    ap (λ l. l.items) p.line_state.places
    ∙ ap (λ l. l.items ++ places_after (sources_by n.config (rendition_states_of n)) i.line_state.value.cursor.value.done) kept.places
    ∙ ap (λ (x : List Source). places (model_of i) ++ places_after x i.line_state.value.cursor.value.done) by
    ∙ sym on.places in
    record {
      all = ap (λ l. l.first) p.log ∙ kept.all;
      lanes = lanes;
      valid = subst (λ (s : State). IsState s) (sym is) take.valid;
      good = good_puts i n entry r rendition_state kept take.good p.rendition_states;
      places = λ k. record { first = first k; items = items k };
      cursor = subst (λ (x : List Source). IsCursor n.line_state.value.cursor.value x) by p.line_state.cursor;
      exhausted = subst (λ (x : List Source). IsExhausted n.line_state.value.cursor.value x) by p.line_state.exhausted;
      line_is = p.line_state.line_is
          ∙ ap (λ (x : List Source). live_after_all i.line_state.value.line.value (places_after x i.line_state.value.cursor.value.done)) by
          ∙ ap (λ (l : Live). live_after_all l (places_after (sources (model_of n)) i.line_state.value.cursor.value.done)) kept.line_is
          ∙ sym (line_goes_on (model_of i) (model_of n) (places_after (sources (model_of n)) i.line_state.value.cursor.value.done) kept.valid p.config on.places
          (removed_with i n entry r rendition_state take.removed is));
    }

-- the log of the parts after one more entry is the snapshot's log with that entry
log_after : (i : Inside) (entry : Entry) → IsSoundSnapshot i → (inside_after (model_of i) entry i.rendition_states i.line_state).log ≡ record { first = i.log.first; items = i.log.items ++ entry ∷ [] }
log_after i entry kept = λ k. record { first = sym kept.all k; items = i.log.items ++ entry ∷ [] }

-- one more entry, replaced rendition states and an advanced line state make such parts
puts : (i : Inside) (entry : Entry) (r : ℕ) (rendition_state : RenditionState) (rendition_states : Vec (Arc RenditionState Global) Global) (line_state : Arc LineState Global) → IsSoundSnapshot i → map (λ a. a.value) rendition_states.items ≡ slice_set (rendition_states_of i) r rendition_state →
    IsAdvancedLineState (sources_by i.config (map (λ a. a.value) rendition_states.items)) i.line_state.value line_state.value → Puts i (inside_after (model_of i) entry rendition_states line_state) entry r rendition_state
puts i entry r rendition_state rendition_states line_state kept sides_are on = record { config = refl; log = log_after i entry kept; rendition_states = sides_are; line_state = on }

-- a snapshot stays sound when a rendition that may be replaced is replaced, with its entry and with the places advanced
pub kept_put : (i : Inside) (s : State) (entry : Entry) (r : ℕ) (rendition_state : RenditionState) (rendition_states : Vec (Arc RenditionState Global) Global) (line_state : Arc LineState Global) → model_of i ≡ s → IsSoundSnapshot i → MayReplaceRendition s entry r rendition_state →
    map (λ a. a.value) rendition_states.items ≡ slice_set (rendition_states_of i) r rendition_state → IsAdvancedLineState (sources_by i.config (map (λ a. a.value) rendition_states.items)) i.line_state.value line_state.value → IsSoundSnapshot (inside_after s entry rendition_states line_state)
kept_put i s entry r rendition_state rendition_states line_state is kept take sides_are on =
    subst (λ (x : State). IsSoundSnapshot (inside_after x entry rendition_states line_state)) is
    (kept_puts i (inside_after (model_of i) entry rendition_states line_state) entry r rendition_state kept (subst (λ (x : State). MayReplaceRendition x entry r rendition_state) (sym is) take)
    (puts i entry r rendition_state rendition_states line_state kept sides_are on))

-- the parts after one more entry represent the state with it, and with this rendition state at number r
pub seen_put : (i : Inside) (s : State) (entry : Entry) (r : ℕ) (rendition_state : RenditionState) (rendition_states : Vec (Arc RenditionState Global) Global) (line_state : Arc LineState Global) → model_of i ≡ s → IsSoundSnapshot i →
    map (λ a. a.value) rendition_states.items ≡ slice_set (rendition_states_of i) r rendition_state → model_of (inside_after s entry rendition_states line_state) ≡ with_rendition s entry r rendition_state
seen_put i s entry r rendition_state rendition_states line_state is kept sides_are =
    subst (λ (x : State). model_of (inside_after x entry rendition_states line_state) ≡ with_rendition x entry r rendition_state) is
    (seen_with i (inside_after (model_of i) entry rendition_states line_state) entry r rendition_state refl (log_after i entry kept) sides_are)

-- the rendition state at number r of a sound snapshot represents rendition r of the state
pub side_at : (i : Inside) (s : State) (r : ℕ) (rendition_state : RenditionState) → model_of i ≡ s → IsSoundSnapshot i → slice_get (rendition_states_of i) r ≡ Some rendition_state → HasRenditionState s r rendition_state
side_at i s r rendition_state is kept at =
    let here : HasRenditionState (model_of i) r rendition_state =
    record {
      lane = subst (λ (ls : List Lane). slice_get ls r ≡ Some (lane_of rendition_state)) kept.lanes (at_map lane_of (rendition_states_of i) r rendition_state at);
      held = at_map held_of (rendition_states_of i) r rendition_state at;
    } in
    subst (λ (x : State). HasRenditionState x r rendition_state) is here

-- a rendition of the state has a rendition state
pub side_within : (i : Inside) (s : State) (r : ℕ) → model_of i ≡ s → r < length s.bytes → r < length i.rendition_states.items
side_within i s r is there =
    let all : length (map held_of (rendition_states_of i)) ≡ length i.rendition_states.items = length-map (rendition_states_of i) held_of ∙ length-map i.rendition_states.items (λ a. a.value) in
    omega (arith, all, ap (λ (x : State). length x.bytes) is, there)

-- renditions that haven't begun have the lanes of the opening state
fresh_lanes : (rs : List Rendition) → map lane_of (map fresh_rendition_state rs) ≡ map fresh_lane rs
fresh_lanes [] = refl
fresh_lanes (r ∷ rs) = ap (λ ls. fresh_lane r ∷ ls) (fresh_lanes rs)

-- renditions that haven't begun keep the bytes of the opening state: none
fresh_bytes : (rs : List Rendition) → map held_of (map fresh_rendition_state rs) ≡ map no_bytes_of rs
fresh_bytes [] = refl
fresh_bytes (r ∷ rs) = ap (λ hs. no_bytes ∷ hs) (fresh_bytes rs)

-- a snapshot with an empty log and with renditions that haven't begun represents the opening state
pub seen_first : (n : Inside) (config : ConfigData) → n.config ≡ config → n.log ≡ record { first = 0; items = [] } → rendition_states_of n ≡ map fresh_rendition_state config.renditions → model_of n ≡ first_state config
seen_first n config is log rendition_states =
    let items : n.log.items ≡ [] = ap (λ l. l.items) log in
    let bytes : map held_of (rendition_states_of n) ≡ map no_bytes_of config.renditions = ap (map held_of) rendition_states ∙ fresh_bytes config.renditions in
    λ k. record { config = is k; log = items k; bytes = bytes k }

-- before any entry there is a first rendition, and it has no units
opening_source : (config : ConfigData) → IsConfig config → (0 < length (sources (first_state config))) × ((source_at (sources (first_state config)) 0).facts ≡ [])
unfolding channel_from
opening_source config good =
    let s : State = first_state config in
    let first = some_at config.renditions 0 (omega (arith, good.renditions.some)) in
    let lane_at : slice_get (channel s).lanes 0 ≡ Some no_lane = at_map fresh_lane config.renditions 0 first.0 first.1 in
    (omega (arith, sources_count s, slice_get_within (channel s).lanes 0 no_lane lane_at), (source_of s 0 no_lane lane_at).facts)

-- a snapshot with an empty log, with renditions that haven't begun and without places is sound
pub kept_first : (n : Inside) (config : ConfigData) → IsConfig config → n.config ≡ config → n.log ≡ record { first = 0; items = [] } → rendition_states_of n ≡ map fresh_rendition_state config.renditions → IsFirstLineState config n.line_state.value → IsSoundSnapshot n
unfolding channel_from advanced_through
kept_first n config good is log rendition_states none_yet =
    let whole : model_of n ≡ first_state config = seen_first n config is log rendition_states in
    let source = opening_source config good in
    let none : places (first_state config) ≡ [] = after-without (sources (first_state config)) 0 source.0 source.1 0 in
    let exhausted : IsExhausted (first_cursor (length config.renditions)) (sources (first_state config)) =
    found-without (sources (first_state config)) 0 source.0 source.1 (first_facts (sources (first_state config))) in
    let fits : IsCursor (first_cursor (length config.renditions)) (sources (first_state config)) =
    first-cursor (length config.renditions) (sources (first_state config))
    (sym (sources_count (first_state config) ∙ lanes_count config [])) in
    let items : n.line_state.value.places.items ≡ places (model_of n) =
    ap (λ p. p.items) none_yet.places ∙ sym none ∙ ap (λ (s : State). places s) (sym whole) in
    let first : n.line_state.value.places.first ≡ 0 = ap (λ p. p.first) none_yet.places in
    record {
      all = ap (λ l. l.first) log;
      lanes = ap (map lane_of) rendition_states ∙ fresh_lanes config.renditions ∙ ap (λ (s : State). (channel s).lanes) (sym whole);
      valid = subst (λ (s : State). IsState s) (sym whole) (first_is_state config good);
      good = λ r rendition_state at rec begun.
          let fresh_at = mapped_at fresh_rendition_state config.renditions r rendition_state (subst (λ (xs : List RenditionState). slice_get xs r ≡ Some rendition_state) rendition_states at) in
          let bare : rendition_state.recording ≡ None = ap (λ (x : RenditionState). x.recording) (sym fresh_at.2) in
          cc;
      places = λ k. record { first = first k; items = items k };
      cursor = subst (λ (p : CursorData). IsCursor p (sources (model_of n))) (sym none_yet.cursor)
          (subst (λ (s : State). IsCursor (first_cursor (length config.renditions)) (sources s)) (sym whole) fits);
      exhausted = subst (λ (p : CursorData). IsExhausted p (sources (model_of n))) (sym none_yet.cursor)
          (subst (λ (s : State). IsExhausted (first_cursor (length config.renditions)) (sources s)) (sym whole) exhausted);
      line_is = none_yet.line_is ∙ ap (λ (ps : List Place). live_of (line_goal_of config) ps 0) (sym none) ∙ ap line (sym whole);
    }

-- the places are those of the state, and the cursor fits and is after the last of them
record AreStill (n : Inside) : Type 0 where
  pub places : n.line_state.value.places ≡ record { first = 0; items = places (model_of n) }
  pub cursor : IsCursor n.line_state.value.cursor.value (sources (model_of n))
  pub exhausted : IsExhausted n.line_state.value.cursor.value (sources (model_of n))

-- if the renditions are unchanged for the search, and only the line is another, places and cursor are those of the new state
are_still : (i n : Inside) (now : Live) → IsSoundSnapshot i → sources (model_of n) ≡ sources (model_of i) → HasLine i.line_state.value now n.line_state.value → AreStill n
are_still i n now kept same p =
    let first : n.line_state.value.places.first ≡ 0 = ap (λ l. l.first) p.places ∙ ap (λ l. l.first) kept.places in
    let items : n.line_state.value.places.items ≡ places (model_of n) =
    ap (λ l. l.items) p.places ∙ ap (λ l. l.items) kept.places ∙ ap places_of (sym same) in
    record {
      places = λ k. record { first = first k; items = items k };
      cursor = subst (λ (x : CursorData). IsCursor x (sources (model_of n))) (sym p.cursor) (subst (λ (x : List Source). IsCursor i.line_state.value.cursor.value x) (sym same) kept.cursor);
      exhausted = subst (λ (x : CursorData). IsExhausted x (sources (model_of n))) (sym p.cursor) (subst (λ (x : List Source). IsExhausted i.line_state.value.cursor.value x) (sym same) kept.exhausted);
    }

-- a snapshot stays sound when a rendition is trimmed, with its entry and with the same places and line
kept_trims : (i : Inside) (entry : Entry) (r : ℕ) (rendition_state : RenditionState) (rendition_states : Vec (Arc RenditionState Global) Global) (line_state : Arc LineState Global) → IsSoundSnapshot i → MayTrim (model_of i) entry r rendition_state →
    map (λ a. a.value) rendition_states.items ≡ slice_set (rendition_states_of i) r rendition_state → IsSameLineState i.line_state.value line_state.value → IsSoundSnapshot (inside_after (model_of i) entry rendition_states line_state)
kept_trims i entry r rendition_state rendition_states line_state kept trim sides_are p =
    let n : Inside = inside_after (model_of i) entry rendition_states line_state in
    let is : model_of n ≡ with_rendition (model_of i) entry r rendition_state = seen_with i n entry r rendition_state refl (log_after i entry kept) sides_are in
    let lanes : map lane_of (rendition_states_of n) ≡ (channel (model_of n)).lanes = lanes_with i n entry r rendition_state kept trim.lanes sides_are is in
    let same : sources (model_of n) ≡ sources (model_of i) = ap sources is ∙ trim.same in
    let still = are_still i n i.line_state.value.line.value kept same p in
    record {
      all = refl;
      lanes = lanes;
      valid = subst (λ (s : State). IsState s) (sym is) trim.valid;
      good = good_puts i n entry r rendition_state kept trim.good sides_are;
      places = still.places;
      cursor = still.cursor;
      exhausted = still.exhausted;
      line_is = p.line_is ∙ kept.line_is ∙ sym (line_stays (model_of i) (model_of n) refl same (removed_with i n entry r rendition_state trim.removed is));
    }

-- the same, given the state that the snapshot represents
pub kept_trim : (i : Inside) (s : State) (entry : Entry) (r : ℕ) (rendition_state : RenditionState) (rendition_states : Vec (Arc RenditionState Global) Global) (line_state : Arc LineState Global) → model_of i ≡ s → IsSoundSnapshot i → MayTrim s entry r rendition_state →
    map (λ a. a.value) rendition_states.items ≡ slice_set (rendition_states_of i) r rendition_state → IsSameLineState i.line_state.value line_state.value → IsSoundSnapshot (inside_after s entry rendition_states line_state)
kept_trim i s entry r rendition_state rendition_states line_state is kept trim sides_are p =
    subst (λ (x : State). IsSoundSnapshot (inside_after x entry rendition_states line_state)) is
    (kept_trims i entry r rendition_state rendition_states line_state kept (subst (λ (x : State). MayTrim x entry r rendition_state) (sym is) trim) sides_are p)

-- one more entry for a slide, with the same renditions, represents the state after the slide
seen_slides : (i : Inside) (by count : ℕ) (rendition_states : Vec (Arc RenditionState Global) Global) (line_state : Arc LineState Global) → map (λ a. a.value) rendition_states.items ≡ rendition_states_of i →
    model_of (inside_after (model_of i) (entry_of by (Slide count)) rendition_states line_state) ≡ state_with_entry (model_of i) by (Slide count)
seen_slides i by count rendition_states line_state sides_are =
    let bytes : map held_of (map (λ a. a.value) rendition_states.items) ≡ map held_of (rendition_states_of i) = ap (map held_of) sides_are in
    λ k. record { config = i.config; log = i.log.items ++ entry_of by (Slide count) ∷ []; bytes = bytes k }

-- a snapshot stays sound after a New slide, with its entry and with a line without the removed segments
kept_slides : (i : Inside) (by count : ℕ) (rendition_states : Vec (Arc RenditionState Global) Global) (line_state : Arc LineState Global) → IsSoundSnapshot i → outcome_of (model_of i) (Slide count) ≡ New →
    map (λ a. a.value) rendition_states.items ≡ rendition_states_of i → HasLine i.line_state.value (without_front count (line (model_of i))) line_state.value → IsSoundSnapshot (inside_after (model_of i) (entry_of by (Slide count)) rendition_states line_state)
kept_slides i by count rendition_states line_state kept new sides_are p =
    let n : Inside = inside_after (model_of i) (entry_of by (Slide count)) rendition_states line_state in
    let is : model_of n ≡ state_with_entry (model_of i) by (Slide count) = seen_slides i by count rendition_states line_state sides_are in
    let lanes_now : map lane_of (rendition_states_of n) ≡ (channel (model_of n)).lanes =
    ap (map lane_of) sides_are ∙ kept.lanes ∙ ap (λ ch. ch.lanes) (sym (channel_advanced (model_of i) by (Slide count)))
    ∙ ap (λ (s : State). (channel s).lanes) (sym is) in
    let same : sources (model_of n) ≡ sources (model_of i) = ap sources is ∙ sources_slide (model_of i) by count in
    let still = are_still i n (without_front count (line (model_of i))) kept same p in
    record {
      all = refl;
      lanes = lanes_now;
      valid = subst (λ (s : State). IsState s) (sym is) (advanced_state (model_of i) by (Slide count) kept.valid tt new);
      good = λ q x at. kept.good q x (subst (λ (xs : List RenditionState). slice_get xs q ≡ Some x) sides_are at);
      places = still.places;
      cursor = still.cursor;
      exhausted = still.exhausted;
      line_is = p.line_is ∙ sym (line_slides (model_of i) by count) ∙ ap line (sym is);
    }

-- the same, given the state that the snapshot represents
pub kept_slide : (i : Inside) (s : State) (by count : ℕ) (rendition_states : Vec (Arc RenditionState Global) Global) (line_state : Arc LineState Global) → model_of i ≡ s → IsSoundSnapshot i → outcome_of s (Slide count) ≡ New →
    map (λ a. a.value) rendition_states.items ≡ rendition_states_of i → HasLine i.line_state.value (without_front count (line s)) line_state.value → IsSoundSnapshot (inside_after s (entry_of by (Slide count)) rendition_states line_state)
kept_slide i s by count rendition_states line_state is kept new sides_are p =
    subst (λ (x : State). IsSoundSnapshot (inside_after x (entry_of by (Slide count)) rendition_states line_state)) is
    (kept_slides i by count rendition_states line_state kept (subst (λ (x : State). outcome_of x (Slide count) ≡ New) (sym is) new) sides_are
    (subst (λ (x : State). HasLine i.line_state.value (without_front count (line x)) line_state.value) (sym is) p))

-- parts with a slide's entry and the same renditions represent the state after the slide
pub seen_slide : (i : Inside) (s : State) (by count : ℕ) (rendition_states : Vec (Arc RenditionState Global) Global) (line_state : Arc LineState Global) → model_of i ≡ s →
    map (λ a. a.value) rendition_states.items ≡ rendition_states_of i → model_of (inside_after s (entry_of by (Slide count)) rendition_states line_state) ≡ state_with_entry s by (Slide count)
seen_slide i s by count rendition_states line_state is sides_are =
    subst (λ (x : State). model_of (inside_after x (entry_of by (Slide count)) rendition_states line_state) ≡ state_with_entry x by (Slide count)) is (seen_slides i by count rendition_states line_state sides_are)
