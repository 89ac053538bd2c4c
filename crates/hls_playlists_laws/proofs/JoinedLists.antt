-- The playlists of a channel after a handover, as its players see them.
use Rattle.std.proofs.Common.{◌≡◌, ◌≢◌, ◌⊎◌, ℕ, zero, suc, ◌+◌, ◌-◌, ◌<◌, ◌≤◌, Bool, false, List, [], ◌∷◌, ◌++◌, length, map, take, drop, cond, Some, None, arith, refl, sym, ap, subst, inl, inr, ◌∙◌, length-append, length-drop}
use Rattle.std.specs.Prelude.{slice_get, option_map}
use Rattle.std.specs.List.{sum_by, count_by}
use Rattle.std.proofs.lemmas.List.{length-map, length-take-le, take-append-drop, append_assoc}
use Rattle.std.proofs.lemmas.List.Sums.{sum_by-cons}
use Rattle.std.proofs.lemmas.Option.{same_Some}
use Rattle.hls_places_laws.specs.declared.place.Place.{Place}
use Rattle.hls_places_laws.specs.declared.line.goal.LineGoal.{LineGoal}
use Rattle.hls_places_laws.specs.declared.line.segment_start.SegmentStart.{SegmentStart}
use Rattle.hls_places_laws.specs.declared.line.live_segment.LiveSegment as live_line
use Rattle.hls_places_laws.specs.Line.Cuts.{Lookahead, Nothing, Enough, TooFar, Line, line_from_lookahead, line_within, line_of, ahead_of, start_at, restart_at}
use Rattle.hls_places_laws.specs.Line.Lengths.{marks_in, is_marked as is_break}
use Rattle.hls_places_laws.specs.Line.Origins.{segments_over}
use Rattle.hls_playlists_laws.proofs.Cited.{marks-add, at_drop}
use Rattle.hls_m3u8.specs.declared.playlist.MediaSegment.{MediaSegment}
use Rattle.hls_m3u8.specs.Playlist.{Playlist}
use Rattle.hls_core_laws.specs.Channel.{Lane}
use Rattle.hls_core_laws.specs.State.{State, channel}
use Rattle.hls_core_laws.specs.IsState.{IsState}
use Rattle.hls_core_laws.specs.Follows.{Follows}
use Rattle.hls_core_laws.specs.Places.{sources, places}
use Rattle.hls_core_laws.specs.Line.{line_goal_of, line}
use Rattle.hls_playlists_laws.specs.Live.{live_layout, live_media_segment, live_list_over, live_list_of}
use Rattle.hls_playlists_laws.specs.LaterList.{IsLater, is_marked, length_us}
use Rattle.hls_playlists_laws.specs.Handovers.{IsHandedOver, marks_to, shifted_range, IsShifted}
use Rattle.hls_playlists_laws.specs.JoinedLists.{Offsets, offsets_of, is_first_marked, joined_segment, joined_segments, marks_uncounted, joined_list, MayTakeOver}
use Rattle.hls_playlists_laws.proofs.Told.{closed, removed-few}
use Rattle.hls_playlists_laws.proofs.Listed.{marks-listed}
use Rattle.hls_playlists_laws.proofs.Texts.{is-listed}
use Rattle.hls_playlists_laws.proofs.Origins.{listed-at}
use Rattle.hls_playlists_laws.proofs.Follows.{live-lists-follow}
use Rattle.hls_playlists_laws.proofs.Handovers.{marks-on, on-over}

none-or-some : (n : ℕ) → (n ≡ 0) ⊎ (1 ≤ n)
none-or-some zero = inl refl
none-or-some (suc n) = inr (omega arith)

take-map : {A : Type 0} {B : Type 0} (d : ℕ) (f : A → B) (xs : List A) → take d (map f xs) ≡ map f (take d xs)
take-map zero f xs = refl
take-map (suc d) f [] = refl
take-map (suc d) f (x ∷ xs) = ap (λ ys. f x ∷ ys) (take-map d f xs)

pub none-left : {A : Type 0} (xs : List A) → length xs ≡ 0 → xs ≡ []
none-left [] is = refl
none-left (x ∷ xs) is = absurd (omega (arith, is))

-- a live playlist lists the closed segments that were not removed
pub listed-count : (s : State) (r : ℕ) (l : Lane) → length (live_list_over s.config.epoch r l (line s)).segments ≡ length (drop (channel s).removed (closed s))
listed-count s r l = length-map (drop (channel s).removed (closed s)) (live_media_segment (live_layout s.config.epoch r l))

-- joining keeps the number of segments
pub joined-length : (o : Offsets) (number : ℕ) (xs : List MediaSegment) → length (joined_segments o number xs) ≡ length xs
joined-length o number [] = refl
joined-length o number (x ∷ xs) = ap suc (joined-length o (suc number) xs)

-- joining changes neither the length of a segment nor the sum of their lengths
joined-us : (o : Offsets) (number : ℕ) (x : MediaSegment) → length_us (joined_segment o number x) ≡ length_us x
joined-us o zero x = refl
joined-us o (suc number) x = refl

joined-lasts : (o : Offsets) (number : ℕ) (xs : List MediaSegment) → sum_by length_us (joined_segments o number xs) ≡ sum_by length_us xs
joined-lasts o number [] = refl
joined-lasts o number (x ∷ xs) =
    let one = sum_by-cons length_us (joined_segment o number x) (joined_segments o (suc number) xs) in
    let two = sum_by-cons length_us x xs in
    omega (arith, one, two, joined-us o number x, joined-lasts o (suc number) xs)

-- if each segment of the first's playlist is the second's, joined, the first's segments are a prefix of the joined ones
pub begins-with : (o : Offsets) (number : ℕ) (xs ys : List MediaSegment) → length xs ≤ length ys →
    ((i : ℕ) (x y : MediaSegment) → slice_get xs i ≡ Some x → slice_get ys i ≡ Some y → x ≡ joined_segment o (number + i) y) →
    (rest : List MediaSegment) × (joined_segments o number ys ≡ xs ++ rest)
begins-with o number [] ys few same = (joined_segments o number ys, refl)
begins-with o number (x ∷ xs) [] few same = absurd (omega (arith, few))
begins-with o number (x ∷ xs) (y ∷ ys) few same =
    let here : x ≡ joined_segment o number y =
    same 0 x y refl refl ∙ ap (λ (k : ℕ). joined_segment o k y) (omega arith) in
    let on = begins-with o (suc number) xs ys (omega (arith, few)) (λ i u v u-at v-at.
    same (suc i) u v u-at v-at ∙ ap (λ (k : ℕ). joined_segment o k v) (omega arith)) in
    (on.0, ap (λ (z : MediaSegment). z ∷ joined_segments o (suc number) ys) (sym here) ∙ ap (λ (zs : List MediaSegment). x ∷ zs) on.1)

-- a segment of the first's playlist is the second's with its range shifted by the constant, and with the first's mark
moved-is : (bytes : ℕ) (x y : MediaSegment) (mark : Bool) → IsShifted bytes x y → mark ≡ x.mark →
    x ≡ record { mark = mark; date = y.date; us = y.us; range = option_map (shifted_range bytes) y.range; uri = y.uri }
moved-is bytes x y mark is same =
    let range : x.range ≡ option_map (shifted_range bytes) y.range =
    is.there ∙ ap (option_map (shifted_range bytes)) (sym is.here) in
    λ k. record { mark = sym same k; date = sym is.date k; us = sym is.us k; range = range k; uri = sym is.uri k }

-- a segment of the first's playlist is the second's, joined, if they differ only by the shift and by the mark of the second's first one
pub joined-is : (o : Offsets) (number : ℕ) (x y : MediaSegment) → IsShifted o.bytes x y → (1 ≤ number → y.mark ≡ x.mark) → (number ≡ 0 → o.marked ≡ x.mark) →
    x ≡ joined_segment o number y
joined-is o zero x y is mark first = moved-is o.bytes x y o.marked is (first refl)
joined-is o (suc number) x y is mark first = moved-is o.bytes x y y.mark is (mark (omega arith))

-- segments begin with a mark exactly if the first one has a mark
pub first-at : (xs : List live_line.LiveSegment) (x : live_line.LiveSegment) → slice_get xs 0 ≡ Some x → is_first_marked xs ≡ x.mark
first-at [] x at = cc
first-at (y ∷ xs) x at =
    let same : y ≡ x = cc in
    ap (λ (z : live_line.LiveSegment). z.mark) same

-- the first segment has one mark or none
one-mark : (xs : List live_line.LiveSegment) → marks_in 1 xs ≡ cond (is_first_marked xs) 1 0
one-mark [] = refl
one-mark (x ∷ xs) =
    let more = sum_by-cons (λ (z : live_line.LiveSegment). cond (is_break z) 1 0) x [] in
    omega (arith, more)

-- once the second's first segment is gone, exactly its mark in the first's playlist isn't counted
marks-uncounted : (o : Offsets) (number : ℕ) → 1 ≤ number → marks_uncounted o number ≡ cond o.marked 1 0
marks-uncounted o zero some = absurd (omega (arith, some))
marks-uncounted o (suc number) some = refl

-- the marks up to a cut are those before it, and that of the segment that begins there
marks-with : (a : State) (n : ℕ) →
    marks_to a n ≡ marks_in n (segments_over (line_goal_of a.config) (sources a)) + cond (is_first_marked (drop n (segments_over (line_goal_of a.config) (sources a)))) 1 0
marks-with a n =
    let all : List live_line.LiveSegment = segments_over (line_goal_of a.config) (sources a) in
    marks-add n 1 all ∙ ap (λ (k : ℕ). marks_in n all + k) (one-mark (drop n all))

-- the marks that a joined playlist counts as removed are those of the first's line up to where it begins
pub marks-joined : (a b : State) (n : ℕ) (cut : Place) (r : ℕ) (l : Lane) → IsState a → IsState b → IsHandedOver a b n cut →
    n + (channel b).removed ≤ length (closed a) →
    (offsets_of a n cut r l).marks + marks_in (channel b).removed (closed b) + marks_uncounted (offsets_of a n cut r l) (channel b).removed
    ≡ marks_in (n + (channel b).removed) (closed a)
marks-joined a b n cut r l state_a state_b over few =
    let o : Offsets = offsets_of a n cut r l in
    let rb : ℕ = (channel b).removed in
    elim (none-or-some rb) [
      | inl none ↦
          let before : marks_in (n + rb) (closed a) ≡ o.marks =
          ap (λ (k : ℕ). marks_in k (closed a)) (omega (arith, none)) in
          let there : marks_in rb (closed b) ≡ 0 = ap (λ (k : ℕ). marks_in k (closed b)) none in
          let first : marks_uncounted o rb ≡ 0 = ap (marks_uncounted o) none in
          omega (arith, before, there, first)
      | inr some ↦
          let on = marks-on a b n rb cut state_a state_b over few (removed-few b state_b) some in
          omega (arith, on, marks-with a n, marks-uncounted o rb some)
    ]

-- the first d segments of a live playlist have as many marks as the line's first d kept ones
marks-front : (s : State) (r : ℕ) (l : Lane) (d : ℕ) →
    count_by is_marked (take d (live_list_over s.config.epoch r l (line s)).segments) ≡ marks_in d (drop (channel s).removed (closed s))
marks-front s r l d =
    let cut = live_layout s.config.epoch r l in
    ap (count_by is_marked) (take-map d (live_media_segment cut) (drop (channel s).removed (closed s))) ∙ marks-listed cut (take d (drop (channel s).removed (closed s)))

-- for a lane of each: if the second's live playlist may take over, it is, joined, valid as a later one of the first's
join-over : (a b : State) (n : ℕ) (cut : Place) (r : ℕ) (l m : Lane) → IsState a → IsState b → IsHandedOver a b n cut →
    slice_get (channel a).lanes r ≡ Some l → slice_get (channel b).lanes r ≡ Some m →
    MayTakeOver n (live_list_over a.config.epoch r l (line a)) (live_list_over b.config.epoch r m (line b)) →
    IsLater (live_list_over a.config.epoch r l (line a)) (joined_list (offsets_of a n cut r l) (live_list_over b.config.epoch r m (line b)))
join-over a b n cut r l m state_a state_b over at also may =
    let p : Playlist = live_list_over a.config.epoch r l (line a) in
    let q : Playlist = live_list_over b.config.epoch r m (line b) in
    let o : Offsets = offsets_of a n cut r l in
    let not_ended = on-over a b n cut r l m state_a state_b over at also in
    let ra : ℕ = (channel a).removed in
    let rb : ℕ = (channel b).removed in
    let d : ℕ = (n + rb) - ra in
    let kept : List MediaSegment = drop d p.segments in
    let long = length-drop d p.segments in
    let few : length kept ≤ length q.segments = omega (arith, long, may.begins, may.meets, may.is_as_far) in
    let same = λ (i : ℕ) (x y : MediaSegment) (x-at : slice_get kept i ≡ Some x) (y-at : slice_get q.segments i ≡ Some y).
    let there : slice_get p.segments (d + i) ≡ Some x = sym (at_drop p.segments d i) ∙ x-at in
    let number : ra + (d + i) ≡ n + (rb + i) = omega (arith, may.begins) in
    let moved = not_ended.segments (d + i) i x y there y-at number in
    let first : rb + i ≡ 0 → o.marked ≡ x.mark = λ none.
    let u = listed-at a r l (d + i) x there in
    let at_n : slice_get (closed a) (n + 0) ≡ Some u.0 =
    ap (slice_get (closed a)) (omega (arith, none, number)) ∙ u.1 in
    first-at (drop n (closed a)) u.0 (at_drop (closed a) n 0 ∙ at_n) ∙ ap (λ (z : MediaSegment). z.mark) u.2 in
    joined-is o (rb + i) x y moved.0 moved.1 first in
    let on = begins-with o rb kept q.segments few same in
    let evicted : List MediaSegment = take d p.segments in
    let count : length evicted ≡ d = length-take-le d p.segments (omega (arith, may.meets)) in
    let inside : n + rb ≤ length (closed a) = omega (arith, may.meets, listed-count a r l, length-drop ra (closed a), removed-few a state_a) in
    record {
      version = refl;
      target = not_ended.target;
      map = not_ended.map;
      evicted = evicted;
      appended = on.0;
      segments = ap (λ (xs : List MediaSegment). xs ++ on.0) (sym (take-append-drop d p.segments))
          ∙ (append_assoc evicted kept on.0 ∙ ap (λ (xs : List MediaSegment). evicted ++ xs) (sym on.1));
      media_sequence = omega (arith, count, may.begins);
      discontinuity_sequence =
          let reached = marks-joined a b n cut r l state_a state_b over inside in
          let upto : ra + d ≡ n + rb = omega (arith, may.begins) in
          let parts : marks_in (n + rb) (closed a) ≡ marks_in ra (closed a) + marks_in d (drop ra (closed a)) =
          ap (λ (k : ℕ). marks_in k (closed a)) (sym upto) ∙ marks-add ra d (closed a) in
          reached ∙ (parts ∙ ap (λ (k : ℕ). marks_in ra (closed a) + k) (sym (marks-front a r l d)));
      ended = λ ended.
          let is = may.ended ended in (
            is.0,
            none-left on.0 (omega (
              arith,
              is.1,
              long,
              may.begins,
              may.meets,
              ap length on.1,
              length-append kept on.0,
              joined-length o rb q.segments,
            )),
          );
      long = λ some goes.
          let fewer : ra < n + rb = elim (none-or-some d) [
            | inl none ↦ absurd (some (none-left evicted (count ∙ none)))
            | inr any ↦ omega (arith, any)
          ] in
          let holds = may.long fewer goes in
          omega (arith, holds, joined-lasts o rb q.segments);
    }

-- if the second's live playlist may take over, it is, joined by the cut's offsets, valid as a later one of the first's
pub live-lists-join : (a b : State) (n : ℕ) (cut : Place) (r : ℕ) (l : Lane) (p q : Playlist) → IsState a → IsState b →
    IsHandedOver a b n cut → slice_get (channel a).lanes r ≡ Some l → live_list_of a r ≡ Some p → live_list_of b r ≡ Some q →
    MayTakeOver n p q → IsLater p (joined_list (offsets_of a n cut r l) q)
live-lists-join a b n cut r l p q state_a state_b over at p-is q-is may =
    let x = is-listed a state_a r p p-is in
    let y = is-listed b state_b r q q-is in
    let same : x.lane ≡ l = same_Some x.lane l (sym x.at ∙ at) in
    let o : Offsets = offsets_of a n cut r l in
    let is_p : live_list_over a.config.epoch r l (line a) ≡ p = ap (λ (k : Lane). live_list_over a.config.epoch r k (line a)) (sym same) ∙ x.is in
    let may_here = subst (λ (z : Playlist). MayTakeOver n z (live_list_over b.config.epoch r y.lane (line b))) (sym is_p)
    (subst (λ (z : Playlist). MayTakeOver n p z) (sym y.is) may) in
    subst (λ (z : Playlist). IsLater z (joined_list o q)) is_p
    (subst (λ (z : Playlist). IsLater (live_list_over a.config.epoch r l (line a)) (joined_list o z)) y.is
    (join-over a b n cut r l y.lane state_a state_b over at y.at may_here))

-- no segment precedes the line's first one, so it has no mark
first-by : (continuation : Bool → SegmentStart → List Place → Line) → ((o : SegmentStart) (rest : List Place) → is_first_marked (continuation false o rest).segments ≡ false) →
    (o : SegmentStart) (ahead : Lookahead) → is_first_marked (line_from_lookahead continuation false o ahead).segments ≡ false
first-by continuation none o Nothing = refl
first-by continuation none o (Enough to rest) = refl
first-by continuation none o (TooFar (Some last) at rest) = refl
first-by continuation none o (TooFar None at rest) = none (restart_at at) rest

first-within : (line_goal : LineGoal) (most : ℕ) (o : SegmentStart) (rest : List Place) → is_first_marked (line_within line_goal most false o rest).segments ≡ false
unfolding line_within
first-within line_goal zero o rest = refl
first-within line_goal (suc most) o rest = first-by (line_within line_goal most) (first-within line_goal most) o (ahead_of line_goal o.place rest)

-- a line's first segment has no mark
pub first-of : (line_goal : LineGoal) (progress : List Place) → is_first_marked (line_of line_goal progress).segments ≡ false
first-of line_goal [] = refl
first-of line_goal (o ∷ rest) = first-within line_goal (suc (length rest)) (start_at o) rest

-- the first segment of a live playlist has no mark, if no segment was removed
pub first-listed : (s : State) (r : ℕ) (l : Lane) (x : MediaSegment) → (channel s).removed ≡ 0 →
    slice_get (live_list_over s.config.epoch r l (line s)).segments 0 ≡ Some x → x.mark ≡ false
first-listed s r l x none at =
    let u = listed-at s r l 0 x at in
    let front : slice_get (closed s) 0 ≡ Some u.0 = ap (slice_get (closed s)) (omega (arith, none)) ∙ u.1 in
    ap (λ (z : MediaSegment). z.mark) (sym u.2)
    ∙ (sym (first-at (closed s) u.0 front)
    ∙ first-of (line_goal_of s.config) (places s))

-- two lists of segments, the second after the first, are joined each under its own numbers
joined-append : (o : Offsets) (number : ℕ) (xs ys : List MediaSegment) →
    joined_segments o number (xs ++ ys) ≡ joined_segments o number xs ++ joined_segments o (number + length xs) ys
joined-append o number [] ys = ap (λ (k : ℕ). joined_segments o k ys) (omega arith)
joined-append o number (x ∷ xs) ys =
    ap (λ (zs : List MediaSegment). joined_segment o number x ∷ zs) (joined-append o (suc number) xs ys
    ∙ ap (λ (k : ℕ). joined_segments o (suc number) xs ++ joined_segments o k ys) (omega arith))

-- joining changes no marks of segments other than the channel's very first one
joined-marks : (o : Offsets) (number : ℕ) (xs : List MediaSegment) → count_by is_marked (joined_segments o (suc number) xs) ≡ count_by is_marked xs
joined-marks o number [] = refl
joined-marks o number (x ∷ xs) =
    let one = sum_by-cons (λ (y : MediaSegment). cond (is_marked y) 1 0) (joined_segment o (suc number) x) (joined_segments o (suc (suc number)) xs) in
    let two = sum_by-cons (λ (y : MediaSegment). cond (is_marked y) 1 0) x xs in
    omega (arith, one, two, joined-marks o (suc number) xs)

-- the marks of removed segments and those uncounted after them are those uncounted before and those of these segments, joined
uncounted-on : (o : Offsets) (number : ℕ) (evicted : List MediaSegment) →
    ((x : MediaSegment) → number ≡ 0 → slice_get evicted 0 ≡ Some x → x.mark ≡ false) →
    count_by is_marked evicted + marks_uncounted o (number + length evicted)
    ≡ marks_uncounted o number + count_by is_marked (joined_segments o number evicted)
uncounted-on o (suc number) evicted first =
    omega (
      arith,
      joined-marks o number evicted,
      marks-uncounted o (suc number) (omega arith),
      marks-uncounted o (suc number + length evicted) (omega arith),
    )
uncounted-on o zero [] first = refl
uncounted-on o zero (x ∷ rest) first =
    let none : cond {A = ℕ} (is_marked x) 1 0 ≡ 0 = ap (λ (mark : Bool). cond {A = ℕ} mark 1 0) (first x refl refl) in
    let one = sum_by-cons (λ (y : MediaSegment). cond (is_marked y) 1 0) x rest in
    let two = sum_by-cons (λ (y : MediaSegment). cond (is_marked y) 1 0) (joined_segment o 0 x) (joined_segments o 1 rest) in
    let first_is : cond {A = ℕ} (is_marked (joined_segment o 0 x)) 1 0 ≡ cond {A = ℕ} o.marked 1 0 = refl in
    omega (arith, none, one, two, first_is, marks-uncounted o (0 + length (x ∷ rest)) (omega arith), joined-marks o 0 rest)

no-segments : (o : Offsets) (number : ℕ) (xs : List MediaSegment) → joined_segments o number xs ≢ [] → xs ≢ []
no-segments o number xs some none = some (ap (joined_segments o number) none)

-- a playlist that is valid as a later one is so after both are joined by the same offsets, if the channel's very first segment
-- has no mark
pub stays-later : (o : Offsets) (p q : Playlist) → (later : IsLater p q) →
    ((x : MediaSegment) → p.media_sequence ≡ 0 → slice_get later.evicted 0 ≡ Some x → x.mark ≡ false) → IsLater (joined_list o p) (joined_list o q)
stays-later o p q later first =
    let k : ℕ = p.media_sequence in
    let count = joined-length o k later.evicted in
    let number : k + length later.evicted ≡ q.media_sequence = sym later.media_sequence in
    record {
      version = later.version;
      target = later.target;
      map = later.map;
      evicted = joined_segments o k later.evicted;
      appended = joined_segments o (k + length p.segments) later.appended;
      segments = sym (joined-append o k p.segments later.appended)
          ∙ (ap (joined_segments o k) later.segments
          ∙ (joined-append o k later.evicted q.segments
          ∙ ap (λ (n : ℕ). joined_segments o k later.evicted ++ joined_segments o n q.segments) number));
      media_sequence = omega (arith, later.media_sequence, count);
      discontinuity_sequence =
          let marks = uncounted-on o k later.evicted first in
          let there : marks_uncounted o (k + length later.evicted) ≡ marks_uncounted o q.media_sequence = ap (marks_uncounted o) number in
          omega (arith, marks, there, later.discontinuity_sequence);
      ended = λ ended.
          let is = later.ended ended in
          (is.0, ap (joined_segments o (k + length p.segments)) is.1);
      long = λ some not_ended.
          let holds = later.long (no-segments o k later.evicted some) not_ended in
          omega (arith, holds, joined-lasts o q.media_sequence q.segments);
    }

-- the first segment that was removed was the playlist's first
pub evicted-first : (xs appended evicted ys : List MediaSegment) (x : MediaSegment) → 0 < length xs → xs ++ appended ≡ evicted ++ ys → slice_get evicted 0 ≡ Some x →
    slice_get xs 0 ≡ Some x
evicted-first [] appended evicted ys x some same at = absurd (omega (arith, some))
evicted-first (z ∷ xs) appended [] ys x some same at = cc
evicted-first (z ∷ xs) appended (y ∷ evicted) ys x some same at = ap (λ (zs : List MediaSegment). slice_get zs 0) same ∙ at

-- joined by any offsets, the live playlist of a state that follows is valid as a later one
pub live-lists-stay_joined : (a b : State) (o : Offsets) (r : ℕ) (earlier : Playlist) → IsState a → Follows a b →
    live_list_of a r ≡ Some earlier → (later : Playlist) × (live_list_of b r ≡ Some later) × IsLater (joined_list o earlier) (joined_list o later)
live-lists-stay_joined a b o r earlier state follows is =
    let next = live-lists-follow a b r earlier state follows is in
    let on = is-listed a state r earlier is in
    let later = next.2 in
    let first = λ (x : MediaSegment) (none : earlier.media_sequence ≡ 0) (at : slice_get later.evicted 0 ≡ Some x).
    let removed : (channel a).removed ≡ 0 = ap (λ (z : Playlist). z.media_sequence) on.is ∙ none in
    let long : length (live_list_over a.config.epoch r on.lane (line a)).segments ≡ length (closed a) =
    listed-count a r on.lane ∙ ap (λ (k : ℕ). length (drop k (closed a))) removed in
    let some : 0 < length earlier.segments = omega (arith, on.some, long, ap (λ (z : Playlist). length z.segments) on.is) in
    let front : slice_get earlier.segments 0 ≡ Some x = evicted-first earlier.segments later.appended later.evicted next.0.segments x some later.segments at in
    first-listed a r on.lane x removed (ap (λ (z : Playlist). slice_get z.segments 0) on.is ∙ front) in
    (next.0, next.1, stays-later o earlier next.0 later first)
