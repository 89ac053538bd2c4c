-- Playlists that count from a base.
use Rattle.std.proofs.Common.{◌≡◌, ℕ, zero, suc, ◌+◌, ◌<◌, Bool, false, List, [], ◌∷◌, ◌++◌, length, drop, cond, Option, Some, None, arith, refl, sym, ap, subst, ◌∙◌, zero-add, add_assoc, length-append, append-nil}
use Rattle.std.specs.Prelude.{slice_get, slice_index_or, replicate, option_map}
use Rattle.std.proofs.lemmas.Option.{same_Some}
use Rattle.hls_places_laws.specs.declared.place.Place.{Place}
use Rattle.hls_places_laws.specs.Line.Lengths.{marks_in}
use Rattle.hls_m3u8.specs.declared.playlist.ByteRange.{ByteRange}
use Rattle.hls_m3u8.specs.declared.playlist.MediaSegment.{MediaSegment}
use Rattle.hls_m3u8.specs.Playlist.{Playlist}
use Rattle.hls_core_laws.specs.Base.{BaseData, no_base, run_text}
use Rattle.hls_core_laws.specs.Config.{ConfigData}
use Rattle.hls_core_laws.specs.Channel.{Lane}
use Rattle.hls_core_laws.specs.State.{State, channel}
use Rattle.hls_core_laws.specs.IsState.{IsState}
use Rattle.hls_core_laws.specs.Follows.{Follows}
use Rattle.hls_core_laws.specs.Places.{places}
use Rattle.hls_core_laws.specs.Line.{line_goal_of, line}
use Rattle.hls_core_laws.proofs.Callers.{at_drop, continues_of}
use Rattle.hls_playlists_laws.specs.Live.{live_list_over, live_list_of}
use Rattle.hls_playlists_laws.specs.LaterList.{IsLater}
use Rattle.hls_playlists_laws.specs.Handovers.{IsHandedOver, shifted_range}
use Rattle.hls_playlists_laws.specs.JoinedLists.{Offsets, offsets_of, is_first_marked, MayTakeOver, shifted_segment, with_mark, joined_segment, joined_segments, marks_uncounted, joined_list}
use Rattle.hls_playlists_laws.proofs.PathLists.{mapped-some, later-named}
use Rattle.hls_playlists_laws.specs.PathLists.{list_by_paths, path_list_of}
use Rattle.hls_playlists_laws.specs.PathLaws.{TakesOver}
use Rattle.hls_playlists_laws.specs.BasedLists.{offsets_from, list_from, based_list_of, offsets_after, AreAsFar}
use Rattle.hls_playlists_laws.proofs.Handovers.{on-over}
use Rattle.hls_playlists_laws.proofs.JoinedLists.{begins-with, evicted-first, first-at, first-listed, first-of, joined-is, joined-length, listed-count, live-lists-join, live-lists-stay_joined, marks-joined, none-left, stays-later}
use Rattle.hls_playlists_laws.proofs.Origins.{listed-at}
use Rattle.hls_playlists_laws.proofs.Stays.{live-lists-stay}
use Rattle.hls_playlists_laws.proofs.Texts.{is-listed}
use Rattle.hls_playlists_laws.proofs.Told.{closed, removed-few}

-- a shift by no bytes changes nothing
range-none : (o : Option ByteRange) → option_map (shifted_range 0) o ≡ o
range-none None = refl
range-none (Some range) = ap (λ (n : ℕ). Some (record { length = range.length; offset = n })) (zero-add range.offset)

moved-none : (x : MediaSegment) → shifted_segment 0 x ≡ x
moved-none x = ap (λ (o : Option ByteRange). record { mark = x.mark; date = x.date; us = x.us; range = o; uri = x.uri }) (range-none x.range)

-- a segment without a mark stays the same if it is shifted by no bytes and gets no mark
marked-none : (x : MediaSegment) → x.mark ≡ false → with_mark false (shifted_segment 0 x) ≡ x
marked-none x none =
    ap (λ (b : Bool). with_mark b (shifted_segment 0 x)) (sym none) ∙ moved-none x

-- the offsets of a channel that continues no other one: nothing precedes it, and its first segment has no mark
abbrev no-offsets : Offsets
no-offsets = record { segments = 0; marks = 0; marked = false; bytes = 0 }

-- with no offsets a joined segment is the segment itself, if the channel's very first segment has no mark
one-none : (number : ℕ) (x : MediaSegment) → (number ≡ 0 → x.mark ≡ false) → joined_segment no-offsets number x ≡ x
one-none zero x first = marked-none x (first refl)
one-none (suc number) x first = moved-none x

-- the same for segments numbered from `number` on
all-none : (number : ℕ) (xs : List MediaSegment) → ((x : MediaSegment) → number ≡ 0 → slice_get xs 0 ≡ Some x → x.mark ≡ false) →
    joined_segments no-offsets number xs ≡ xs
all-none number [] first = refl
all-none number (x ∷ xs) first =
    ap (λ (y : MediaSegment). y ∷ joined_segments no-offsets (suc number) xs) (one-none number x (λ none. first x none refl))
    ∙ ap (λ (ys : List MediaSegment). x ∷ ys) (all-none (suc number) xs (λ y none at. absurd (omega (arith, none))))

-- with no offsets no mark is left uncounted
uncounted-none : (number : ℕ) → marks_uncounted no-offsets number ≡ 0
uncounted-none zero = refl
uncounted-none (suc number) = refl

-- with no offsets a joined playlist is the playlist itself, if the channel's very first segment has no mark
joined-none : (q : Playlist) → ((x : MediaSegment) → q.media_sequence ≡ 0 → slice_get q.segments 0 ≡ Some x → x.mark ≡ false) → joined_list no-offsets q ≡ q
joined-none q first =
    let sequence : 0 + q.media_sequence ≡ q.media_sequence = zero-add q.media_sequence in
    let marks : 0 + q.discontinuity_sequence + marks_uncounted no-offsets q.media_sequence ≡ q.discontinuity_sequence =
    omega (arith, uncounted-none q.media_sequence) in
    let all = all-none q.media_sequence q.segments first in
    λ k. record {
      version = q.version;
      target = q.target;
      media_sequence = sequence k;
      discontinuity_sequence = marks k;
      kind = q.kind;
      map = q.map;
      segments = all k;
      ended = q.ended;
    }

-- a list of zeros has 0 at each index, and 0 is the default past its end
zeros-at : (n r : ℕ) → ◌≡◌ {A = ℕ} (slice_index_or (replicate n 0) r 0) 0
zeros-at zero r = refl
zeros-at (suc n) zero = refl
zeros-at (suc n) (suc r) = zeros-at n r

-- no base has no offsets in any rendition
no-bytes : (r : ℕ) → offsets_from no_base r ≡ no-offsets
no-bytes r = ap (λ (n : ℕ). record { segments = 0; marks = 0; marked = false; bytes = n }) (zeros-at 16 r)

-- joining a state's live playlist by the offsets of no base doesn't change it
none-by : (s : State) (r : ℕ) → IsState s → (o : Option Playlist) → live_list_of s r ≡ o → option_map (joined_list (offsets_from no_base r)) o ≡ o
none-by s r state None is = refl
none-by s r state (Some q) is =
    let on = is-listed s state r q is in
    let first = λ (x : MediaSegment) (none : q.media_sequence ≡ 0) (at : slice_get q.segments 0 ≡ Some x).
    let removed : (channel s).removed ≡ 0 = ap (λ (z : Playlist). z.media_sequence) on.is ∙ none in
    first-listed s r on.lane x removed (ap (λ (z : Playlist). slice_get z.segments 0) on.is ∙ at) in
    ap (λ (o : Offsets). Some (joined_list o q)) (no-bytes r) ∙ ap (λ (z : Playlist). Some z) (joined-none q first)

-- with no base a playlist is the process's own
pub lists-without-base : (s : State) (r : ℕ) → IsState s → list_from no_base s r ≡ live_list_of s r
lists-without-base s r state = none-by s r state (live_list_of s r) refl

-- with any base they change as live playlists may
pub based-lists-follow : (base : BaseData) (a b : State) (r : ℕ) (earlier : Playlist) → IsState a → Follows a b → list_from base a r ≡ Some earlier →
    (later : Playlist) × (list_from base b r ≡ Some later) × IsLater earlier later
based-lists-follow base a b r earlier state follows is =
    let o : Offsets = offsets_from base r in
    let earlier_list = mapped-some (joined_list o) (live_list_of a r) earlier is in
    let next = live-lists-stay_joined a b o r earlier_list.0 state follows earlier_list.1 in (
      joined_list o next.0,
      ap (option_map (joined_list o)) next.1,
      subst (λ (x : Playlist). IsLater x (joined_list o next.0)) earlier_list.2 next.2,
    )

-- for a lane of each: once both are as far, the second's playlist, joined by the cut's offsets, is the first's
same-over : (a b : State) (n : ℕ) (cut : Place) (r : ℕ) (l m : Lane) → IsState a → IsState b → IsHandedOver a b n cut →
    slice_get (channel a).lanes r ≡ Some l → slice_get (channel b).lanes r ≡ Some m →
    AreAsFar n (live_list_over a.config.epoch r l (line a)) (live_list_over b.config.epoch r m (line b)) →
    joined_list (offsets_of a n cut r l) (live_list_over b.config.epoch r m (line b)) ≡ live_list_over a.config.epoch r l (line a)
same-over a b n cut r l m state_a state_b over at also far =
    let p : Playlist = live_list_over a.config.epoch r l (line a) in
    let q : Playlist = live_list_over b.config.epoch r m (line b) in
    let o : Offsets = offsets_of a n cut r l in
    let goes_on = on-over a b n cut r l m state_a state_b over at also in
    let ra : ℕ = (channel a).removed in
    let rb : ℕ = (channel b).removed in
    let begins : ra ≡ n + rb = far.begins in
    let same = λ (i : ℕ) (x y : MediaSegment) (x-at : slice_get p.segments i ≡ Some x) (y-at : slice_get q.segments i ≡ Some y).
    let number : ra + i ≡ n + (rb + i) = omega (arith, begins) in
    let moved = goes_on.segments i i x y x-at y-at number in
    let first : rb + i ≡ 0 → o.marked ≡ x.mark = λ none.
    let u = listed-at a r l i x x-at in
    let at_n : slice_get (closed a) (n + 0) ≡ Some u.0 = ap (slice_get (closed a)) (omega (arith, none, number)) ∙ u.1 in
    first-at (drop n (closed a)) u.0 (at_drop (closed a) n 0 ∙ at_n) ∙ ap (λ (z : MediaSegment). z.mark) u.2 in
    joined-is o (rb + i) x y moved.0 moved.1 first in
    let on = begins-with o rb p.segments q.segments (omega (arith, far.count)) same in
    let rest : on.0 ≡ [] =
    none-left on.0 (omega (arith, far.count, ap length on.1, length-append p.segments on.0, joined-length o rb q.segments)) in
    let segments : joined_segments o rb q.segments ≡ p.segments =
    on.1 ∙ (ap (λ (xs : List MediaSegment). p.segments ++ xs) rest ∙ append-nil p.segments) in
    let marks = marks-joined a b n cut r l state_a state_b over (omega (arith, sym begins, removed-few a state_a))
    ∙ ap (λ (k : ℕ). marks_in k (closed a)) (sym begins) in
    let target = goes_on.target in
    let same_map = goes_on.map in
    let over_too = sym far.ended in
    λ k. record {
      version = 6;
      target = target k;
      media_sequence = sym begins k;
      discontinuity_sequence = marks k;
      kind = None;
      map = same_map k;
      segments = segments k;
      ended = over_too k;
    }

-- once both have removed and listed as many segments, the second's playlist, joined by the cut's offsets, equals the first's
pub based-same : (a b : State) (n : ℕ) (cut : Place) (r : ℕ) (l : Lane) (p q : Playlist) → IsState a → IsState b →
    IsHandedOver a b n cut → slice_get (channel a).lanes r ≡ Some l → live_list_of a r ≡ Some p → live_list_of b r ≡ Some q →
    AreAsFar n p q → joined_list (offsets_of a n cut r l) q ≡ p
based-same a b n cut r l p q state_a state_b over at p-is q-is far =
    let x = is-listed a state_a r p p-is in
    let y = is-listed b state_b r q q-is in
    let same : x.lane ≡ l = same_Some x.lane l (sym x.at ∙ at) in
    let o : Offsets = offsets_of a n cut r l in
    let is_p : live_list_over a.config.epoch r l (line a) ≡ p = ap (λ (k : Lane). live_list_over a.config.epoch r k (line a)) (sym same) ∙ x.is in
    let far_here = subst (λ (z : Playlist). AreAsFar n z (live_list_over b.config.epoch r y.lane (line b))) (sym is_p)
    (subst (λ (z : Playlist). AreAsFar n p z) (sym y.is) far) in
    ap (joined_list o) (sym y.is) ∙ (same-over a b n cut r l y.lane state_a state_b over at y.at far_here ∙ is_p)

-- a range that is shifted twice is shifted by the sum
range-twice : (m n : ℕ) (o : Option ByteRange) → option_map (shifted_range m) (option_map (shifted_range n) o) ≡ option_map (shifted_range (m + n)) o
range-twice m n None = refl
range-twice m n (Some range) =
    ap (λ (k : ℕ). Some (record { length = range.length; offset = k })) (sym (add_assoc m n range.offset))

-- a segment that is shifted twice and gets a mark is the one that is shifted by the sum and gets that mark
named-twice : (m n : ℕ) (mark : Bool) (x : MediaSegment) →
    with_mark mark (shifted_segment m (shifted_segment n x)) ≡ with_mark mark (shifted_segment (m + n) x)
named-twice m n mark x =
    ap (λ (o : Option ByteRange). record { mark = mark; date = x.date; us = x.us; range = o; uri = x.uri }) (range-twice m n x.range)

-- the offsets with these segments, marks, mark at the cut, and bytes
abbrev offsets : ℕ → ℕ → Bool → ℕ → Offsets
offsets n marks marked bytes = record { segments = n; marks = marks; marked = marked; bytes = bytes }

-- joining a segment by a cut's offsets and then by a base's is joining it once by the cut's offsets after the base
one-twice : (base : Offsets) (n marks : ℕ) (marked : Bool) (bytes number : ℕ) (x : MediaSegment) →
    joined_segment base (n + number) (joined_segment (offsets n marks marked bytes) number x) ≡ joined_segment (offsets_after base (offsets n marks marked bytes)) number x
one-twice base zero marks marked bytes zero x = named-twice base.bytes bytes base.marked x
one-twice base (suc n) marks marked bytes zero x =
    let at : suc n + 0 ≡ suc n = omega arith in
    ap (λ (k : ℕ). joined_segment base k (with_mark marked (shifted_segment bytes x))) at ∙ named-twice base.bytes bytes marked x
one-twice base n marks marked bytes (suc number) x =
    let at : n + suc number ≡ suc (n + number) = omega arith in
    ap (λ (k : ℕ). joined_segment base k (shifted_segment bytes x)) at ∙ named-twice base.bytes bytes x.mark x

-- the same for segments numbered from `number` on
all-twice : (base o : Offsets) (number : ℕ) (xs : List MediaSegment) →
    joined_segments base (o.segments + number) (joined_segments o number xs) ≡ joined_segments (offsets_after base o) number xs
all-twice base o number [] = refl
all-twice base o number (x ∷ xs) =
    let one = one-twice base o.segments o.marks o.marked o.bytes number x in
    let next : suc (o.segments + number) ≡ o.segments + suc number = omega arith in
    let rest = ap (λ (k : ℕ). joined_segments base k (joined_segments o (suc number) xs)) next ∙ all-twice base o (suc number) xs in
    ap (λ (y : MediaSegment). y ∷ joined_segments base (suc (o.segments + number)) (joined_segments o (suc number) xs)) one
    ∙ ap (λ (ys : List MediaSegment). joined_segment (offsets_after base o) number x ∷ ys) rest

-- the marks that a cut and then a base leave uncounted are those of the base up to the cut, and then those of both together
marks-twice : (base : Offsets) (n marks : ℕ) (marked : Bool) (bytes number : ℕ) → (n ≡ 0 → marked ≡ false) →
    marks_uncounted (offsets n marks marked bytes) number + marks_uncounted base (n + number)
    ≡ marks_uncounted base n + marks_uncounted (offsets_after base (offsets n marks marked bytes)) number
marks-twice base zero marks marked bytes zero first = omega arith
marks-twice base (suc n) marks marked bytes zero first =
    let at : suc n + 0 ≡ suc n = omega arith in
    let upto : marks_uncounted base (suc n + 0) ≡ marks_uncounted base (suc n) = ap (marks_uncounted base) at in
    omega (arith, upto)
marks-twice base zero marks marked bytes (suc number) first =
    let none : cond {A = ℕ} marked 1 0 ≡ 0 = ap (λ (mark : Bool). cond {A = ℕ} mark 1 0) (first refl) in
    let upto : marks_uncounted base (0 + suc number) ≡ cond {A = ℕ} base.marked 1 0 = ap (marks_uncounted base) (zero-add (suc number)) in
    omega (arith, none, upto)
marks-twice base (suc n) marks marked bytes (suc number) first =
    let upto : marks_uncounted base (suc n + suc number) ≡ cond {A = ℕ} base.marked 1 0 =
    ap (marks_uncounted base) (let same : suc n + suc number ≡ suc (n + suc number) = omega arith in same) in
    omega (arith, upto)

-- joining a playlist by a cut's offsets and then by a base's is joining it once by both, if a cut at the line's front has no mark
pub joined-twice : (base o : Offsets) (q : Playlist) → (o.segments ≡ 0 → o.marked ≡ false) → joined_list base (joined_list o q) ≡ joined_list (offsets_after base o) q
joined-twice base o q first =
    let sequence : base.segments + (o.segments + q.media_sequence) ≡ base.segments + o.segments + q.media_sequence = omega arith in
    let uncounted = marks-twice base o.segments o.marks o.marked o.bytes q.media_sequence first in
    let marks : base.marks + (o.marks + q.discontinuity_sequence + marks_uncounted o q.media_sequence) + marks_uncounted base (o.segments + q.media_sequence)
    ≡ base.marks + o.marks + marks_uncounted base o.segments + q.discontinuity_sequence + marks_uncounted (offsets_after base o) q.media_sequence =
    omega (arith, uncounted) in
    let all = all-twice base o q.media_sequence q.segments in
    λ k. record {
      version = q.version;
      target = q.target;
      media_sequence = sequence k;
      discontinuity_sequence = marks k;
      kind = q.kind;
      map = q.map;
      segments = all k;
      ended = q.ended;
    }

-- a cut at the front of a line: its first segment has no mark
cut-first : (a : State) (n : ℕ) (cut : Place) (r : ℕ) (l : Lane) → n ≡ 0 → (offsets_of a n cut r l).marked ≡ false
cut-first a n cut r l none =
    ap (λ (k : ℕ). is_first_marked (drop k (closed a))) none ∙ first-of (line_goal_of a.config) (places a)

-- once both are as far, the second's playlist, joined by the cut's offsets after any base, is the first's, joined by that base
pub lists-same : (base : Offsets) (a b : State) (n : ℕ) (cut : Place) (r : ℕ) (l : Lane) (p q : Playlist) → IsState a → IsState b →
    IsHandedOver a b n cut → slice_get (channel a).lanes r ≡ Some l → live_list_of a r ≡ Some p → live_list_of b r ≡ Some q →
    AreAsFar n p q → joined_list (offsets_after base (offsets_of a n cut r l)) q ≡ joined_list base p
lists-same base a b n cut r l p q state_a state_b over at p-is q-is far =
    let o : Offsets = offsets_of a n cut r l in
    sym (joined-twice base o q (cut-first a n cut r l))
    ∙ ap (joined_list base) (based-same a b n cut r l p q state_a state_b over at p-is q-is far)

-- if the second's playlist may take over, it is, joined by the cut's offsets after any base, a later one of the first's, joined by that base
pub lists-join : (base : Offsets) (a b : State) (n : ℕ) (cut : Place) (r : ℕ) (l : Lane) (p q : Playlist) → IsState a → IsState b →
    IsHandedOver a b n cut → slice_get (channel a).lanes r ≡ Some l → live_list_of a r ≡ Some p → live_list_of b r ≡ Some q →
    MayTakeOver n p q → IsLater (joined_list base p) (joined_list (offsets_after base (offsets_of a n cut r l)) q)
lists-join base a b n cut r l p q state_a state_b over at p-is q-is may =
    let o : Offsets = offsets_of a n cut r l in
    let later = live-lists-join a b n cut r l p q state_a state_b over at p-is q-is may in
    let on = is-listed a state_a r p p-is in
    let first = λ (x : MediaSegment) (none : p.media_sequence ≡ 0) (there : slice_get later.evicted 0 ≡ Some x).
    let removed : (channel a).removed ≡ 0 = ap (λ (z : Playlist). z.media_sequence) on.is ∙ none in
    let long : length (live_list_over a.config.epoch r on.lane (line a)).segments ≡ length (closed a) =
    listed-count a r on.lane ∙ ap (λ (k : ℕ). length (drop k (closed a))) removed in
    let some : 0 < length p.segments = omega (arith, on.some, long, ap (λ (z : Playlist). length z.segments) on.is) in
    let front : slice_get p.segments 0 ≡ Some x = evicted-first p.segments later.appended later.evicted (joined_list o q).segments x some later.segments there in
    first-listed a r on.lane x removed (ap (λ (z : Playlist). slice_get z.segments 0) on.is ∙ front) in
    subst (λ (z : Playlist). IsLater (joined_list base p) z) (joined-twice base o q (cut-first a n cut r l))
    (stays-later base p (joined_list o q) later first)

-- a channel that takes over another one at a cut has that one's playlists, by ranges and by paths, once both are as far
pub taken-over-equal : (a b : State) (n : ℕ) (cut : Place) (r : ℕ) (l : Lane) (p q : Playlist) → IsState a → IsState b →
    TakesOver a b n cut r l → slice_get (channel a).lanes r ≡ Some l → live_list_of a r ≡ Some p → live_list_of b r ≡ Some q →
    AreAsFar n p q → (based_list_of b r ≡ based_list_of a r) × (path_list_of b r ≡ path_list_of a r)
taken-over-equal a b n cut r l p q state_a state_b takes at p-is q-is far =
    let base : Offsets = offsets_from a.config.base r in
    let o : Offsets = offsets_of a n cut r l in
    let equal : joined_list (offsets_from b.config.base r) q ≡ joined_list base p =
    ap (λ (x : Offsets). joined_list x q) takes.offsets ∙ lists-same base a b n cut r l p q state_a state_b takes.over at p-is q-is far in
    let lists : based_list_of b r ≡ based_list_of a r =
    ap (option_map (joined_list (offsets_from b.config.base r))) q-is
    ∙ (ap (λ (x : Playlist). Some x) equal ∙ ap (option_map (joined_list base)) (sym p-is)) in (
      lists,
      ap (λ (run : List ℕ). option_map (list_by_paths (run_text run) r) (based_list_of b r)) takes.run
          ∙ ap (option_map (list_by_paths (run_text a.config.base.run) r)) lists,
    )

-- path lists change as live playlists may
pub path-lists-follow : (a b : State) (r : ℕ) (earlier : Playlist) → IsState a → Follows a b → path_list_of a r ≡ Some earlier →
    (later : Playlist) × (path_list_of b r ≡ Some later) × IsLater earlier later
path-lists-follow a b r earlier state follows is =
    let run : List ℕ = run_text a.config.base.run in
    let before = mapped-some (list_by_paths run r) (based_list_of a r) earlier is in
    let next = based-lists-follow a.config.base a b r before.0 state follows before.1 in
    let same : path_list_of b r ≡ option_map (list_by_paths run r) (list_from a.config.base b r) =
    ap (λ (c : ConfigData). option_map (list_by_paths (run_text c.base.run) r) (list_from c.base b r)) (continues_of a b follows).config in (
      list_by_paths run r next.0,
      same ∙ ap (option_map (list_by_paths run r)) next.1,
      subst (λ (x : Playlist). IsLater x (list_by_paths run r next.0)) before.2 (later-named run r before.0 next.0 next.2),
    )

-- two states of one log with equally many events have the same playlists
pub based-lists-stay : (a b later : State) → Follows a later → Follows b later → length b.log ≡ length a.log → (r : ℕ) →
    (based_list_of b r ≡ based_list_of a r) × (path_list_of b r ≡ path_list_of a r)
based-lists-stay a b later a_first b_first as_many r =
    let own : live_list_of b r ≡ live_list_of a r = live-lists-stay a b later a_first b_first as_many r in
    let config : b.config ≡ a.config = sym (continues_of b later b_first).config ∙ (continues_of a later a_first).config in
    let lists : based_list_of b r ≡ based_list_of a r =
    ap (option_map (joined_list (offsets_from b.config.base r))) own
    ∙ ap (λ (c : ConfigData). option_map (joined_list (offsets_from c.base r)) (live_list_of a r)) config in (
      lists,
      ap (option_map (list_by_paths (run_text b.config.base.run) r)) lists
          ∙ ap (λ (c : ConfigData). option_map (list_by_paths (run_text c.base.run) r) (based_list_of a r)) config,
    )
