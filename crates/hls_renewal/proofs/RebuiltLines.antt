-- The live line, rebuilt from all places one by one.
use Rattle.std.proofs.Common.{◌≡◌, ◌∙◌, ℕ, suc, ◌+◌, ◌<◌, ◌≤◌, Bool, true, false, Option, Some, None, List, [], ◌∷◌, ◌++◌, length, take, get_or, refl, sym, ap, arith, length-append}
use Rattle.std.specs.Prelude.{map, slice_get, if◌then◌else◌}
use Rattle.std.specs.List.{filter_map, cons_option, list_all}
use Rattle.std.proofs.lemmas.List.{take_all, take_more, length-take}
use Rattle.std.proofs.lemmas.Option.{slice_get_within, slice_get-get_or, get_or_from_slice_get}
use Rattle.hls_places_laws.specs.declared.place.Place.{Place}
use Rattle.hls_places_laws.specs.declared.line.goal.LineGoal.{LineGoal}
use Rattle.hls_places_laws.specs.Sources.{first_facts}
use Rattle.hls_places_laws.specs.Places.{common_at, closing_places, has_ended, source_end_spot}
use Rattle.hls_places_laws.specs.Order.{no_place}
use Rattle.hls_places_laws.specs.Line.Live.{Live, fresh, live_of, live_after, live_after_all}
use Rattle.hls_places_laws.specs.Line.Progress.{advanced_through}
use Rattle.hls_places_laws.proofs.Callers.{live-moves, places-ordered, progress-more, progress-none, segments-few}
use Rattle.hls_core_laws.specs.State.{State, channel}
use Rattle.hls_core_laws.specs.IsState.{IsState}
use Rattle.hls_core_laws.specs.Places.{sources, places}
use Rattle.hls_core_laws.proofs.Callers.{lanes_count, some_at, source_of, states_are_timed, units_are_logged}

-- a filter keeps at most all elements
filtered : {X Y : Type 0} (f : X → Option Y) (xs : List X) → length (filter_map f xs) ≤ length xs
filtered f [] = omega arith
filtered f (x ∷ xs) = elim (f x) as (λ o. length (cons_option o (filter_map f xs)) ≤ suc (length xs)) [
  | None ↦ omega (arith, filtered f xs)
  | Some y ↦ omega (arith, filtered f xs)
]

-- a place that is there only under a condition is at most one
closed : (b : Bool) (p : Place) → length (if b then p ∷ [] else []) ≤ 1
closed true p = omega arith
closed false p = omega arith

-- a state has at most one more common place than entries
pub places_few : (s : State) → IsState s → length (places s) ≤ 4194305
places_few s state =
    let lane_at = some_at (channel s).lanes 0 (omega (arith, lanes_count s.config s.log, state.configured.renditions.some)) in
    let facts : length (first_facts (sources s)) ≡ length lane_at.0.facts = ap length (source_of s 0 lane_at.0 lane_at.1).facts in
    let found = filtered (common_at (sources s)) (first_facts (sources s)) in
    let end = closed (list_all has_ended (sources s)) (record { spots = map source_end_spot (sources s); closing = true }) in
    omega (arith, facts, found, end, state.few, units_are_logged s.config s.log state.legal 0 lane_at.0 lane_at.1, length-append (filter_map (common_at (sources s)) (first_facts (sources s))) (closing_places (sources s)))

-- a place has a spot in each rendition
pub some_spots : (s : State) → IsState s → (k : ℕ) (p : Place) → slice_get (places s) k ≡ Some p → 0 < length p.spots
some_spots s state k p at =
    let are = states_are_timed s state in
    let below = slice_get_within (places s) k p at in
    let here = (places-ordered (sources s) are).each k no_place below in
    let same : get_or (places s) k no_place ≡ p = let there = slice_get-get_or (places s) k no_place below in cc in
    omega (arith, are.some, here.place.count, ap (λ (q : Place). length q.spots) same)

-- the line of the first n places, with no segment removed
abbrev pub line_to : LineGoal → List Place → ℕ → Live
line_to line_goal ps n = live_of line_goal (take n ps) 0

-- the line of no places is a fresh one
pub line_begins : (line_goal : LineGoal) (ps : List Place) → fresh line_goal ≡ line_to line_goal ps 0
unfolding advanced_through
line_begins line_goal ps = refl

-- the line of the first n places has at most n segments
pub line_fits : (line_goal : LineGoal) (ps : List Place) (n : ℕ) → length (line_to line_goal ps n).progress.line.segments ≤ n
line_fits line_goal ps n = omega (arith, segments-few line_goal (take n ps), length-take n ps)

-- adding a list of one place is adding the place
one_more : (line : Live) (p : Place) → live_after_all line (p ∷ []) ≡ live_after line p
one_more line p =
    let same = progress-more line.line_goal line.removed line.progress p [] ∙ progress-none line.line_goal line.removed (live_after line p).progress in
    λ k. record { line_goal = line.line_goal; progress = same k; removed = line.removed; breaks = line.breaks }

-- the line of the first n places and place n after them make the line of the first n + 1 places
pub line_continues : (line_goal : LineGoal) (ps : List Place) (n : ℕ) (p : Place) (line next : Live) → slice_get ps n ≡ Some p
    → line ≡ line_to line_goal ps n → next ≡ live_after line p → next ≡ line_to line_goal ps (n + 1)
line_continues line_goal ps n p line next at so_far is =
    let within = slice_get_within ps n p at in
    let taken : take (n + 1) ps ≡ take n ps ++ p ∷ [] = take_more ps n p within ∙ ap (λ x. take n ps ++ x ∷ []) (get_or_from_slice_get ps n p p at) in
    is
    ∙ ap (λ l. live_after l p) so_far
    ∙ sym (one_more (line_to line_goal ps n) p)
    ∙ sym (live-moves line_goal (take n ps) (p ∷ []) 0 (omega arith))
    ∙ ap (λ xs. live_of line_goal xs 0) (sym taken)

-- the line of at least as many places as there are is the line of all places
pub line_ends : (line_goal : LineGoal) (ps : List Place) (n : ℕ) (line : Live) → length ps ≤ n → line ≡ line_to line_goal ps n → line ≡ live_of line_goal ps 0
line_ends line_goal ps n line past is = is ∙ ap (λ xs. live_of line_goal xs 0) (take_all n ps past)
