-- Live playlists that show less than the line keeps, in a state and in one that follows.
use Rattle.std.proofs.Common.{◌≡◌, ◌∙◌, ℕ, zero, suc, ◌+◌, ◌-◌, ◌*◌, ◌<◌, ◌≤◌, Bool, true, false, List, [], ◌∷◌, ◌++◌, length, map, take, drop, Option, Some, None, arith, refl, sym, ap, subst, inl, inr, cond, leb, length-append, length-drop}
use Rattle.std.specs.Prelude.{option_map}
use Rattle.std.specs.List.{count_by, sum_by}
use Rattle.std.proofs.Math.Seq.{take-add}
use Rattle.std.proofs.lemmas.Bool.{cases_eq, cases_lt, and_from, and_parts, le-leb, leb-true}
use Rattle.std.proofs.lemmas.List.{drop-append-le, drop-drop, drop-map, drop_all, length-map, length-take-le, take-append-drop, take-append-le}
use Rattle.std.proofs.lemmas.List.Sums.{sum_by-append, sum_by-cons}
use Rattle.std.proofs.lemmas.Option.{slice_get_within}
use Rattle.hls_places_laws.specs.declared.place.Place.{Place}
use Rattle.hls_places_laws.specs.declared.line.goal.LineGoal.{LineGoal}
use Rattle.hls_places_laws.specs.declared.line.live_segment.LiveSegment.{LiveSegment}
use Rattle.hls_places_laws.specs.declared.line.segment_start.SegmentStart.{SegmentStart}
use Rattle.hls_places_laws.specs.Line.Cuts.{Enough, Line, Lookahead, Nothing, TooFar, ahead_of, line_from_lookahead, line_of, line_within, restart_at, start_at}
use Rattle.hls_places_laws.specs.Line.Lengths.{each_below, is_long, length_in, remaining_length, renditions_of, three_targets}
use Rattle.hls_places_laws.specs.Line.Live.{Live, front_of, front_place, live_of, segments_of}
use Rattle.hls_places_laws.specs.Line.LineBounds.{FrontIsAPlace}
use Rattle.hls_places_laws.specs.Line.Upkeep.{IsMostSlide, LineLeaves}
use Rattle.hls_m3u8.specs.declared.playlist.MediaSegment.{MediaSegment}
use Rattle.hls_m3u8.specs.declared.playlist.PlaylistKind.{PlaylistKind}
use Rattle.hls_m3u8.specs.Playlist.{Playlist}
use Rattle.hls_core_laws.specs.Base.{run_text}
use Rattle.hls_core_laws.specs.Config.{ConfigData}
use Rattle.hls_core_laws.specs.State.{State, channel}
use Rattle.hls_core_laws.specs.IsState.{IsState}
use Rattle.hls_core_laws.specs.Places.{places, sources}
use Rattle.hls_core_laws.specs.Line.{line, line_goal_of}
use Rattle.hls_core_laws.proofs.Callers.{continues_of, floors-count, lanes_count, sources_count, spots-count, state_of}
use Rattle.hls_playlists_laws.specs.BasedLists.{based_list_of, offsets_from}
use Rattle.hls_playlists_laws.specs.JoinedLists.{Offsets, joined_list, joined_segment, joined_segments}
use Rattle.hls_playlists_laws.specs.LaterList.{IsLater, is_marked, length_us}
use Rattle.hls_playlists_laws.specs.Live.{live_layout, live_list_of, live_list_over, live_media_segment}
use Rattle.hls_playlists_laws.specs.PathLaws.{BasedListsFollow}
use Rattle.hls_playlists_laws.specs.PathLists.{list_by_paths, media_folder, path_list_of, segment_in}
use Rattle.hls_playlists_laws.specs.Segments.{ResourceLayout}
use Rattle.hls_playlists_laws.proofs.Callers.{closed, is-listed}
use Rattle.hls_playlists.specs.RecentLists.{RecentListsFollow, hidden_count, most_to, recent_list_of, shows_enough}
use Rattle.hls_playlists.specs.ShortLists.{shortened_list}
use Rattle.hls_playlists.proofs.GoingOn.{GoesOn, drop-evicted, goes-on-by_paths, is-mapped, is-of-line, lists-go-on, take-evicted}
use Rattle.hls_playlists.proofs.StartsOn.{LineGoesOn, segments-on}

-- ---- the greatest number

-- the greatest number up to n is at most n
most-few : (us : ℕ) (live : Live) (n : ℕ) → most_to us live n ≤ n
most-few us live zero = omega arith
most-few us live (suc n) = by (shows_enough us live (suc n)) (most-few us live n)
  where
    by : (b : Bool) → most_to us live n ≤ n → cond b (suc n) (most_to us live n) ≤ suc n
    by true rest = omega arith
    by false rest = omega (arith, rest)

-- each number up to n that shows enough is at most the greatest one
most-is : (us : ℕ) (live : Live) (n m : ℕ) → m ≤ n → shows_enough us live m ≡ true → m ≤ most_to us live n
most-is us live zero m within enough = within
most-is us live (suc n) m within enough = by (shows_enough us live (suc n)) refl (λ less. most-is us live n m less enough)
  where
    by : (b : Bool) → shows_enough us live (suc n) ≡ b → (m ≤ n → m ≤ most_to us live n) → m ≤ cond b (suc n) (most_to us live n)
    by true is rest = within
    by false is rest = elim (cases_eq m (suc n)) [
      | inl same ↦
          let never : true ≡ false = sym enough ∙ (ap (shows_enough us live) same ∙ is) in
          absurd (cc)
      | inr other ↦ rest (omega (arith, within, other))
    ]

-- the greatest number of hidden segments, if it is above 0, leaves enough shown
most-shows : (us : ℕ) (live : Live) (n : ℕ) → 0 < most_to us live n → shows_enough us live (most_to us live n) ≡ true
most-shows us live zero some = absurd (omega (arith, some))
most-shows us live (suc n) some = by (shows_enough us live (suc n)) refl (most-shows us live n) some
  where
    by : (b : Bool) → shows_enough us live (suc n) ≡ b → (0 < most_to us live n → shows_enough us live (most_to us live n) ≡ true)
        → 0 < cond b (suc n) (most_to us live n) → shows_enough us live (cond b (suc n) (most_to us live n)) ≡ true
    by true is rest any = is
    by false is rest any = rest any

-- a line that leaves enough without its first n segments shows enough without them
shows-by : (us : ℕ) (live : Live) (n : ℕ) → LineLeaves live us n → shows_enough us live n ≡ true
shows-by us live n leaves = and_from _ _ (le-leb us (remaining_length 0 (segments_of live) n) leaves.in_window) leaves.long

-- what is shown lasts long enough
record Shows (us : ℕ) (live : Live) (n : ℕ) : Type 0 where
  window : us ≤ remaining_length 0 (segments_of live) n
  long : is_long live.line_goal (renditions_of live.progress.line.segment_start) (segments_of live) n ≡ true

-- what is shown without the first n segments lasts the given time in rendition 0, and three target durations in each
shown : (us : ℕ) (live : Live) (n : ℕ) → shows_enough us live n ≡ true → Shows us live n
shown us live n enough =
    let parts = and_parts (leb us (remaining_length 0 (segments_of live) n)) (is_long live.line_goal (renditions_of live.progress.line.segment_start) (segments_of live) n) enough in
    record { window = leb-true us (remaining_length 0 (segments_of live) n) parts.0; long = parts.1 }

-- a line that shows enough without its first n segments leaves enough without them
leaves-by : (us : ℕ) (live : Live) (n : ℕ) → n ≤ length (segments_of live) → shows_enough us live n ≡ true → LineLeaves live us n
leaves-by us live n within enough =
    let shows = shown us live n enough in
    record { within = within; in_window = shows.window; long = shows.long }

-- the greatest slide of a line is the number of its hidden segments
pub hidden-is : (us : ℕ) (live : Live) (n : ℕ) → IsMostSlide live us n → n ≡ hidden_count us live
hidden-is us live n most =
    let count : ℕ = hidden_count us live in
    let few = most-few us live (length (segments_of live)) in
    let up : n ≤ count = elim (cases_lt 0 n) [
      | inl some ↦ most-is us live (length (segments_of live)) n (most.leaves some).within (shows-by us live n (most.leaves some))
      | inr none ↦ omega (arith, none)
    ] in
    let down : count ≤ n = elim (cases_lt 0 count) [
      | inl some ↦ most.most count (leaves-by us live count few (most-shows us live (length (segments_of live)) some))
      | inr none ↦ omega (arith, none)
    ] in
    omega (arith, up, down)

-- no more segments are hidden than the line has
pub hidden-few : (us : ℕ) (live : Live) → hidden_count us live ≤ length (segments_of live)
hidden-few us live = most-few us live (length (segments_of live))

-- ---- the length in each rendition

-- `each_below` is true only if the test passes for each number below the bound
each-at : (test : ℕ → Bool) (bound r : ℕ) → r < bound → each_below bound test ≡ true → test r ≡ true
each-at test zero r h is = absurd (omega (arith, h))
each-at test (suc bound) r h is =
    let parts = and_parts (each_below bound test) (test bound) is in
    elim (cases_eq r bound) [
      | inl same ↦ ap test same ∙ parts.1
      | inr other ↦ each-at test bound r (omega (arith, h, other)) parts.0
    ]

-- `each_below` is true if the test passes for each number below the bound
each-of : (test : ℕ → Bool) (bound : ℕ) → ((r : ℕ) → r < bound → test r ≡ true) → each_below bound test ≡ true
each-of test zero each = refl
each-of test (suc bound) each =
    and_from (each_below bound test) (test bound) (each-of test bound (λ r h. each r (omega (arith, h)))) (each bound (omega arith))

-- a segment of a line is open
abbrev HasStart : Line → Type 0
HasStart t = (o : SegmentStart) × (t.segment_start ≡ Some o)

-- a line that looks ahead to its next segment has an open one, if its continuation has
start-by : (continuation : Bool → SegmentStart → List Place → Line) → ((earlier : Bool) (o : SegmentStart) (rest : List Place) → HasStart (continuation earlier o rest)) →
    (earlier : Bool) (o : SegmentStart) (ahead : Lookahead) → HasStart (line_from_lookahead continuation earlier o ahead)
start-by continuation has earlier o Nothing = (o, refl)
start-by continuation has earlier o (Enough to rest) = has true (start_at to) rest
start-by continuation has earlier o (TooFar (Some last) at rest) = has true (start_at last) (at ∷ rest)
start-by continuation has earlier o (TooFar None at rest) = has earlier (restart_at at) rest

-- a line from a place on has an open segment
start-within : (goal : LineGoal) (most : ℕ) (earlier : Bool) (o : SegmentStart) (rest : List Place) → HasStart (line_within goal most earlier o rest)
unfolding line_within
start-within goal zero earlier o rest = (o, refl)
start-within goal (suc most) earlier o rest = start-by (line_within goal most) (start-within goal most) earlier o (ahead_of goal o.place rest)

-- once a segment was closed, the open place of a state's line has a spot in each rendition
open-count : FrontIsAPlace → (s : State) → IsState s → 0 < length (closed s) → renditions_of (line s).progress.line.segment_start ≡ length (sources s)
open-count front_stands s state some = by (places s) refl
  where
    by : (ps : List Place) → places s ≡ ps → renditions_of (line s).progress.line.segment_start ≡ length (sources s)
    by [] is = absurd (omega (arith, some, ap (λ (qs : List Place). length (line_of (line_goal_of s.config) qs).segments) is))
    by (p ∷ rest) is =
        let goal : LineGoal = line_goal_of s.config in
        let start = start-within goal (suc (length rest)) false (start_at p) rest in
        let open_is : (line_of goal (places s)).segment_start ≡ Some start.0 = ap (λ (qs : List Place). (line_of goal qs).segment_start) is ∙ start.1 in
        let front : front_of (live_of goal (places s) (length (closed s))) ≡ Some start.0.place =
        ap (λ (xs : List LiveSegment). front_place xs (line_of goal (places s)).segment_start) (drop_all (length (closed s)) (closed s) (omega arith))
        ∙ ap (front_place []) open_is in
        let one = front_stands goal (places s) (length (closed s)) start.0.place front in
        ap renditions_of open_is ∙ (spots-count s state one.number start.0.place one.there ∙ floors-count s)

-- ---- playlists

-- without the first n segments, a playlist lasts as long as the line's segments in its rendition
lasts-in : (s : State) (r : ℕ) (list : Playlist) → IsState s → based_list_of s r ≡ Some list → (n : ℕ) →
    sum_by length_us (drop n list.segments) ≡ remaining_length r (segments_of (line s)) n
lasts-in s r list state is n =
    let o : Offsets = offsets_from s.config.base r in
    let own = is-mapped (joined_list o) (live_list_of s r) list is in
    let on = is-listed s state r own.value own.is in
    let cut : ResourceLayout = live_layout s.config.epoch r on.lane in
    let same : joined_list o (live_list_over s.config.epoch r on.lane (line s)) ≡ list = ap (joined_list o) on.is ∙ own.same in
    ap (λ (p : Playlist). sum_by length_us (drop n p.segments)) (sym same)
    ∙ (joined-lasts o (channel s).removed n (map (live_media_segment cut) (segments_of (line s)))
    ∙ (ap (sum_by length_us) (drop-map (live_media_segment cut) n (segments_of (line s))) ∙ listed-lasts cut (drop n (segments_of (line s)))))
  where
    joined-us : (o : Offsets) (number : ℕ) (x : MediaSegment) → length_us (joined_segment o number x) ≡ length_us x
    joined-us o zero x = refl
    joined-us o (suc number) x = refl

    all-last : (o : Offsets) (number : ℕ) (xs : List MediaSegment) → sum_by length_us (joined_segments o number xs) ≡ sum_by length_us xs
    all-last o number [] = refl
    all-last o number (x ∷ xs) =
        let one = sum_by-cons length_us (joined_segment o number x) (joined_segments o (suc number) xs) in
        let two = sum_by-cons length_us x xs in
        omega (arith, one, two, joined-us o number x, all-last o (suc number) xs)

    joined-lasts : (o : Offsets) (number n : ℕ) (xs : List MediaSegment) → sum_by length_us (drop n (joined_segments o number xs)) ≡ sum_by length_us (drop n xs)
    joined-lasts o number zero xs = all-last o number xs
    joined-lasts o number (suc n) [] = refl
    joined-lasts o number (suc n) (x ∷ xs) = joined-lasts o (suc number) n xs

    listed-lasts : (cut : ResourceLayout) (xs : List LiveSegment) → sum_by length_us (map (live_media_segment cut) xs) ≡ sum_by (length_in cut.rendition) xs
    listed-lasts cut [] = refl
    listed-lasts cut (x ∷ xs) =
        let one = sum_by-cons length_us (live_media_segment cut x) (map (live_media_segment cut) xs) in
        let two = sum_by-cons (length_in cut.rendition) x xs in
        omega (arith, one, two, listed-lasts cut xs)

-- segments under paths last, added up, as long as under ranges
named-last : (folder : List ℕ) (xs : List MediaSegment) → sum_by length_us (map (segment_in folder) xs) ≡ sum_by length_us xs
named-last folder [] = refl
named-last folder (x ∷ xs) =
    let one = sum_by-cons length_us (segment_in folder x) (map (segment_in folder) xs) in
    let two = sum_by-cons length_us x xs in
    omega (arith, one, two, named-last folder xs)

-- a later playlist without its first k segments is valid after one without its first n, if it hides no fewer and three target durations are left
later-shortened : (kind : Option PlaylistKind) (p q : Playlist) (n k : ℕ) → (goes : GoesOn p q) → n ≤ length p.segments → k ≤ length q.segments → n ≤ length goes.evicted + k →
    (n < length goes.evicted + k → q.ended ≡ false → 3 * q.target * 1000000 ≤ sum_by length_us (drop k q.segments)) →
    IsLater (shortened_list kind n p) (shortened_list kind k q)
later-shortened kind p q n k goes few within more long =
    let e : ℕ = length goes.evicted in
    let all : List MediaSegment = p.segments ++ goes.appended in
    let left : List MediaSegment = drop n p.segments ++ goes.appended in
    let d : ℕ = e + k - n in
    let front : drop n all ≡ left = drop-append-le n p.segments goes.appended few in
    let number : n + d ≡ e + k = omega (arith, more) in
    let rest : drop d left ≡ drop k q.segments =
    ap (drop d) (sym front) ∙ (drop-drop d n all ∙ (ap (λ (m : ℕ). drop m all) number ∙ (ap (drop (e + k)) goes.segments ∙ drop-evicted goes.evicted q.segments (e + k) k refl))) in
    let long-enough : d ≤ length left =
    omega (
      arith,
      number,
      within,
      few,
      length-drop n p.segments,
      length-append (drop n p.segments) goes.appended,
      length-append p.segments goes.appended,
      ap length goes.segments,
      length-append goes.evicted q.segments,
    ) in
    let count : length (take d left) ≡ d = length-take-le d left long-enough in
    record {
      version = goes.version;
      target = goes.target;
      map = goes.map_is;
      evicted = take d left;
      appended = goes.appended;
      segments = sym (take-append-drop d left) ∙ ap (λ (xs : List MediaSegment). take d left ++ xs) rest;
      media_sequence = omega (arith, goes.media_sequence, number, count);
      discontinuity_sequence =
          let marked = λ (x : MediaSegment). cond (is_marked x) 1 0 in
          let whole : take n p.segments ++ take d left ≡ goes.evicted ++ take k q.segments =
          ap (λ (xs : List MediaSegment). xs ++ take d left) (sym (take-append-le n p.segments goes.appended few))
          ∙ (ap (λ (xs : List MediaSegment). take n all ++ take d xs) (sym front)
          ∙ (sym (take-add n d all)
          ∙ (ap (λ (m : ℕ). take m all) number ∙ (ap (take (e + k)) goes.segments ∙ take-evicted goes.evicted q.segments (e + k) k refl)))) in
          let marks = ap (count_by is_marked) whole in
          let one = sum_by-append marked (take n p.segments) (take d left) in
          let two = sum_by-append marked goes.evicted (take k q.segments) in
          omega (arith, marks, one, two, goes.discontinuity_sequence);
      ended = goes.ended;
      long = λ some not_ended.
          let fewer : n < e + k = elim (cases_lt n (e + k)) [
            | inl less ↦ less
            | inr same ↦
                let none : d ≡ 0 = omega (arith, same) in
                absurd (some (ap (λ (m : ℕ). take m left) none))
          ] in
          long fewer not_ended;
    }

-- a playlist that hides something lasts three target durations
shown-long : FrontIsAPlace → (us : ℕ) (s : State) → IsState s → (r : ℕ) (list : Playlist) → based_list_of s r ≡ Some list → 0 < hidden_count us (line s) →
    three_targets (line s).line_goal ≤ remaining_length r (segments_of (line s)) (hidden_count us (line s))
shown-long front_stands us s state r list is some =
    let n : ℕ = hidden_count us (line s) in
    let shows = shown us (line s) n (most-shows us (line s) (length (segments_of (line s))) some) in
    let any : 0 < length (closed s) = omega (arith, some, hidden-few us (line s), length-drop (channel s).removed (closed s)) in
    let own = is-mapped (joined_list (offsets_from s.config.base r)) (live_list_of s r) list is in
    let on = is-listed s state r own.value own.is in
    let below : r < renditions_of (line s).progress.line.segment_start =
    omega (arith, open-count front_stands s state any, sources_count s, slice_get_within (channel s).lanes r on.lane on.at) in
    leb-true _ _ (each-at (λ k. leb (three_targets (line s).line_goal) (remaining_length k (segments_of (line s)) n)) (renditions_of (line s).progress.line.segment_start) r below shows.long)

-- ---- in two states

-- a segment that is hidden in a state is hidden or removed in a state that follows
hides-on : FrontIsAPlace → (us : ℕ) (a b : State) → IsState a → IsState b → b.config ≡ a.config → length (sources b) ≡ length (sources a) → LineGoesOn a b →
    (channel a).removed + hidden_count us (line a) ≤ (channel b).removed + hidden_count us (line b)
hides-on front_stands us a b state state_b config renditions goes =
    let n : ℕ = hidden_count us (line a) in
    let ra : ℕ = (channel a).removed in
    let rb : ℕ = (channel b).removed in
    let xs : List LiveSegment = segments_of (line a) in
    elim (cases_lt rb (ra + n)) [
      | inr none ↦ omega (arith, none)
      | inl past ↦
          let m : ℕ = ra + n - rb in
          let some : 0 < n = omega (arith, past, goes.rises) in
          let few = hidden-few us (line a) in
          let shows = shown us (line a) n (most-shows us (line a) (length xs) some) in
          let left : drop m (segments_of (line b)) ≡ drop n xs ++ goes.appended =
          ap (drop m) (segments-on a b state goes)
          ∙ (drop-drop m (rb - ra) (xs ++ goes.appended)
          ∙ (ap (λ (j : ℕ). drop j (xs ++ goes.appended)) (let number : rb - ra + m ≡ n = omega (arith, past, goes.rises) in number)
          ∙ drop-append-le n xs goes.appended few)) in
          let longer : (r : ℕ) → remaining_length r xs n ≤ remaining_length r (segments_of (line b)) m = λ r.
          omega (arith, ap (sum_by (length_in r)) left, sum_by-append (length_in r) (drop n xs) goes.appended) in
          let any : 0 < length (closed a) = omega (arith, some, few, length-drop ra (closed a)) in
          let more : 0 < length (closed b) = omega (arith, any, ap length goes.closed_is, length-append (closed a) goes.appended) in
          let count_a = open-count front_stands a state any in
          let count_b = open-count front_stands b state_b more in
          let goal_is : line_goal_of b.config ≡ line_goal_of a.config = ap line_goal_of config in
          let targets : three_targets (line b).line_goal ≡ three_targets (line a).line_goal = ap three_targets goal_is in
          let long : is_long (line b).line_goal (renditions_of (line b).progress.line.segment_start) (segments_of (line b)) m ≡ true =
          each-of (λ r. leb (three_targets (line b).line_goal) (remaining_length r (segments_of (line b)) m)) (renditions_of (line b).progress.line.segment_start)
          (λ r h.
          let was : three_targets (line a).line_goal ≤ remaining_length r xs n = leb-true _ _ (each-at (λ k. leb (three_targets (line a).line_goal) (remaining_length k xs n)) (renditions_of (line a).progress.line.segment_start) r
          (omega (arith, h, count_a, count_b, renditions)) shows.long) in
          le-leb _ _ (omega (arith, was, longer r, targets))) in
          let window = le-leb us (remaining_length 0 (segments_of (line b)) m) (omega (arith, shows.window, longer 0)) in
          let within : m ≤ length (segments_of (line b)) =
          omega (
            arith,
            past,
            few,
            goes.rises,
            ap length (segments-on a b state goes),
            length-drop (rb - ra) (xs ++ goes.appended),
            length-append xs goes.appended,
          ) in
          let most = most-is us (line b) (length (segments_of (line b))) m within (and_from _ _ window long) in
          omega (arith, most, past)
    ]

-- in a state that follows one with a playlist of the last segments there is one, which is valid as a later one
pub recent-lists-follow : FrontIsAPlace → BasedListsFollow → RecentListsFollow
unfolding goes-on-by_paths
recent-lists-follow front_stands based_lists_follow us a b r earlier state follows is =
    let state_b : IsState b = state_of a b follows state in
    let config : b.config ≡ a.config = (continues_of a b follows).config in
    let run : List ℕ = run_text a.config.base.run in
    let n : ℕ = hidden_count us (line a) in
    let k : ℕ = hidden_count us (line b) in
    let cut = is-mapped (shortened_list None n) (path_list_of a r) earlier is in
    let paths = is-mapped (list_by_paths run r) (based_list_of a r) cut.value cut.is in
    let p : Playlist = paths.value in
    let on = lists-go-on based_lists_follow a b r p state follows paths.is in
    let q : Playlist = on.next in
    let was = is-of-line a r p state paths.is in
    let now = is-of-line b r q state_b on.is in
    let goes = goes-on-by_paths run r p q on.goes in
    let path : MediaSegment → MediaSegment = segment_in (media_folder run r) in
    let gone : length goes.evicted ≡ length on.goes.evicted = length-map on.goes.evicted path in
    let count : length (sources b) ≡ length (sources a) =
    sources_count b ∙ (lanes_count b.config b.log ∙ (ap (λ (c : ConfigData). length c.renditions) config ∙ sym (sources_count a ∙ lanes_count a.config a.log))) in
    let hides = hides-on front_stands us a b state state_b config count on.lines in
    let lasts : sum_by length_us (drop k (list_by_paths run r q).segments) ≡ remaining_length r (segments_of (line b)) k =
    ap (sum_by length_us) (drop-map path k q.segments) ∙ (named-last (media_folder run r) (drop k q.segments) ∙ lasts-in b r q state_b on.is k) in
    let long : n < length goes.evicted + k → q.ended ≡ false → 3 * q.target * 1000000 ≤ sum_by length_us (drop k (list_by_paths run r q).segments) =
    λ fewer not_ended. elim (cases_lt 0 k) [
      | inl some ↦ omega (arith, shown-long front_stands us b state_b r q on.is some, lasts, now.target)
      | inr none ↦
          let zero_is : k ≡ 0 = omega (arith, none) in
          let whole = on.later.long (λ empty. absurd (omega (arith, fewer, gone, zero_is, ap length on.same, ap length empty))) not_ended in
          let same : sum_by length_us (drop k (list_by_paths run r q).segments) ≡ sum_by length_us q.segments =
          ap (λ (j : ℕ). sum_by length_us (drop j (list_by_paths run r q).segments)) zero_is ∙ named-last (media_folder run r) q.segments in
          omega (arith, whole, same)
    ] in
    let later = later-shortened None (list_by_paths run r p) (list_by_paths run r q) n k goes
    (omega (arith, hidden-few us (line a), was.count, length-map p.segments path)) (omega (arith, hidden-few us (line b), now.count, length-map q.segments path))
    (omega (arith, hides, on.number, gone)) long in
    let list : Playlist = shortened_list None k (list_by_paths run r q) in
    let there : recent_list_of us b r ≡ Some list =
    ap (λ o. option_map (shortened_list None k) (option_map (list_by_paths (run_text b.config.base.run) r) o)) on.is
    ∙ ap (λ (c : ConfigData). Some (shortened_list None k (list_by_paths (run_text c.base.run) r q))) config in
    (list, there, subst (λ (x : Playlist). IsLater x list) (ap (shortened_list None n) paths.same ∙ cut.same) later)
