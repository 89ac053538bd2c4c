-- Once segments were removed from a line, three target durations are left in each rendition until it ends.
use Rattle.std.proofs.Common.{◌≡◌, ◌∙◌, ℕ, zero, suc, ◌+◌, ◌<◌, ◌≤◌, Bool, true, false, Option, Some, None, List, [], ◌∷◌, ◌++◌, length, drop, Result, Ok, Err, leb, refl, sym, ap, subst, inl, inr, arith, length-drop}
use Rattle.std.specs.Prelude.{◌==◌, ◌||◌, if◌then◌else◌, nat_lt}
use Rattle.std.specs.List.{list_all, sum_by}
use Rattle.std.proofs.lemmas.Bool.{and_parts, cases_Bool, cases_eq, leb-true, ltb-false, or_parts}
use Rattle.std.proofs.lemmas.List.{drop-append-le}
use Rattle.std.proofs.lemmas.List.Sums.{sum_by-append}
use Rattle.hls_places_laws.specs.declared.place.Place.{Place}
use Rattle.hls_places_laws.specs.declared.fault.LineFault.{LineFault}
use Rattle.hls_places_laws.specs.declared.fault.LineFault.TheVariants.{TooMany, TooShort}
use Rattle.hls_places_laws.specs.Places.{has_ended}
use Rattle.hls_places_laws.specs.declared.line.goal.LineGoal.{LineGoal}
use Rattle.hls_places_laws.specs.declared.line.live_segment.LiveSegment.{LiveSegment}
use Rattle.hls_places_laws.specs.declared.line.segment_start.SegmentStart.{SegmentStart}
use Rattle.hls_places_laws.specs.Line.Cuts.{Enough, Line, Lookahead, Nothing, TooFar, ahead_of, line_from_lookahead, line_of, line_within, restart_at, start_at}
use Rattle.hls_places_laws.specs.Line.Lengths.{each_below, is_long, length_in, remaining_length, renditions_of, three_targets}
use Rattle.hls_places_laws.specs.Line.Live.{Live, has_ended as has_line_ended, may_slide, segments_of, stays_long, without_front}
use Rattle.hls_places_laws.proofs.Callers.{over-stays, segments-stay}
use Rattle.hls_core_laws.specs.declared.event.Event.{Event}
use Rattle.hls_core_laws.specs.declared.event.Event.TheVariants.{Begin, Accept, Finish, Slide, Trim}
use Rattle.hls_core_laws.specs.Config.{ConfigData}
use Rattle.hls_core_laws.specs.Channel.{Channel, channel_from}
use Rattle.hls_core_laws.specs.State.{State, HeldBytes, channel}
use Rattle.hls_core_laws.specs.IsState.{IsState}
use Rattle.hls_core_laws.specs.Follows.{Follows}
use Rattle.hls_core_laws.specs.Line.{line, line_goal_of}
use Rattle.hls_core_laws.specs.Moves.{IsFitting, state_with_entry}
use Rattle.hls_core_laws.specs.Outcome.{New, outcome_of}
use Rattle.hls_core_laws.specs.Places.{places, sources}
use Rattle.hls_core_laws.specs.Runs.{first_state}
use Rattle.hls_core_laws.proofs.Callers.{advanced_follows, advanced_state, channel_advanced, continues_of, every_state, line_slides, line_stays, places_follow, removed_within, slides, sources_grow, sources_slide}
use Rattle.hls_playlists_laws.proofs.Callers.{closed-reached, whole}
use Rattle.hls_renewal.proofs.RenewedSources.{line_has_ended}

-- ---- a line with a closed segment is open somewhere

-- a line with an open segment has one after the next lookahead, whatever it finds, if it has one after the steps that follow
opened_by : (goal : LineGoal) (most : ℕ) → ((earlier : Bool) (o : SegmentStart) (rest : List Place) → (x : SegmentStart) × ((line_within goal most earlier o rest).segment_start ≡ Some x))
    → (earlier : Bool) (o : SegmentStart) (ahead : Lookahead) → (x : SegmentStart) × ((line_from_lookahead (line_within goal most) earlier o ahead).segment_start ≡ Some x)
opened_by goal most again earlier o Nothing = (o, refl)
opened_by goal most again earlier o (Enough to rest) = again true (start_at to) rest
opened_by goal most again earlier o (TooFar (Some last) at rest) = again true (start_at last) (at ∷ rest)
opened_by goal most again earlier o (TooFar None at rest) = again earlier (restart_at at) rest

-- a line that starts with an open segment still has one after any number of steps
opened_within : (goal : LineGoal) (most : ℕ) (earlier : Bool) (o : SegmentStart) (rest : List Place) → (x : SegmentStart) × ((line_within goal most earlier o rest).segment_start ≡ Some x)
unfolding line_within
opened_within goal zero earlier o rest = (o, refl)
opened_within goal (suc most) earlier o rest = opened_by goal most (opened_within goal most) earlier o (ahead_of goal o.place rest)

-- a line with a closed segment has an open one
pub opened : (goal : LineGoal) (places : List Place) → 0 < length (line_of goal places).segments → (x : SegmentStart) × ((line_of goal places).segment_start ≡ Some x)
opened goal [] some = absurd (omega (arith, some))
opened goal (o ∷ rest) some = opened_within goal (suc (length rest)) false (start_at o) rest

-- ---- what a slide leaves

-- in each rendition the segments' lengths add up to at least three target durations
pub record IsLongIn (goal : LineGoal) (renditions : ℕ) (segments : List LiveSegment) : Type 0 where
  pub each : (r : ℕ) → r < renditions → three_targets goal ≤ sum_by (length_in r) segments

-- if segments were removed and the line hasn't ended, the segments that are left are at least three target durations long in each rendition
abbrev pub StaysLong : State → Type 0
StaysLong s = 0 < (channel s).removed → has_line_ended (line s) ≡ false → IsLongIn (line_goal_of s.config) (length (sources s)) (segments_of (line s))

-- a test that is true for all numbers below a bound is true for each of them
each_at : (test : ℕ → Bool) (bound r : ℕ) → r < bound → each_below bound test ≡ true → test r ≡ true
each_at test zero r h is = absurd (omega (arith, h))
each_at test (suc bound) r h is =
    let parts = and_parts (each_below bound test) (test bound) is in
    elim (cases_eq r bound) [
      | inl same ↦ ap test same ∙ parts.1
      | inr other ↦ each_at test bound r (omega (arith, h, other)) parts.0
    ]

-- a slide by n segments is allowed: n is above 0, the line has n segments, and enough are left
record MaySlide (live : Live) (n : ℕ) : Type 0 where
  some : 0 < n
  few : n ≤ length (segments_of live)
  stays : stays_long live n ≡ true

some_count : (n : ℕ) → (n == 0) ≡ false → 0 < n
some_count zero is = absurd (cc)
some_count (suc n) is = omega arith

-- the result of the last test of a slide: too short, unless enough is left
abbrev long_or : Bool → Result (Unit {0}) LineFault
long_or b = (if b then Ok tt else Err TooShort)

-- if the last test of a slide passes, enough is left
long_of : (b : Bool) → long_or b ≡ Ok tt → b ≡ true
long_of true is = refl
long_of false is = absurd (cc)

-- the result of a slide's tests: too many segments, else too short, else allowed
abbrev slide_by : Bool → Bool → Result (Unit {0}) LineFault
slide_by many b = (if many then Err TooMany else long_or b)

-- if the tests of a slide pass, it is allowed in the sense of `MaySlide`
allowed_by : (live : Live) (n : ℕ) (many : Bool) → (n == 0 || nat_lt (length (segments_of live)) n) ≡ many → slide_by many (stays_long live n) ≡ Ok tt → MaySlide live n
allowed_by live n true e is = absurd (cc)
allowed_by live n false e is =
    let parts = or_parts (n == 0) (nat_lt (length (segments_of live)) n) e in
    record { some = some_count n parts.0; few = ltb-false (length (segments_of live)) n parts.1; stays = long_of (stays_long live n) is }

-- a slide of a line that passes the tests is allowed in the sense of `MaySlide`
allowed : (live : Live) (n : ℕ) → may_slide live n ≡ Ok tt → MaySlide live n
allowed live n may = allowed_by live n (n == 0 || nat_lt (length (segments_of live)) n) refl may

or_right : (a b : Bool) → (a || b) ≡ true → a ≡ false → b ≡ true
or_right true b is none = absurd (cc)
or_right false b is none = is

-- if the line has a closed segment, its open segment begins in as many renditions as the channel has
renditions_in : (s : State) → IsState s → 0 < length (whole s).line.segments → renditions_of (whole s).line.segment_start ≡ length (sources s)
renditions_in s state some =
    let start = opened (line_goal_of s.config) (places s) some in
    ap renditions_of start.1 ∙ ((closed-reached s state).segment_start start.0 start.1).count

-- after a slide that is new, three target durations are left in each rendition, unless the line has ended
after_slide : (s : State) (by count : ℕ) → IsState s → outcome_of s (Slide count) ≡ New → StaysLong (state_with_entry s by (Slide count))
after_slide s by count state new some unended =
    let may = allowed (line s) count ((slides (may_slide (line s) count) (length s.log) new).may) in
    let lines : line (state_with_entry s by (Slide count)) ≡ without_front count (line s) = line_slides s by count in
    let on : has_line_ended (line s) ≡ false = sym (ap has_line_ended lines) ∙ unended in
    let long = or_right (has_line_ended (line s)) (is_long (line_goal_of s.config) (renditions_of (whole s).line.segment_start) (segments_of (line s)) count) may.stays on in
    let any : 0 < length (whole s).line.segments = omega (arith, may.some, may.few, length-drop (channel s).removed (whole s).line.segments) in
    let renditions = renditions_in s state any in
    let left : IsLongIn (line_goal_of s.config) (length (sources s)) (drop count (segments_of (line s))) = record {
      each = λ r h.
          let below : r < renditions_of (whole s).line.segment_start = omega (arith, renditions, h) in
          leb-true _ _ (each_at (λ k. leb (three_targets (line_goal_of s.config)) (remaining_length k (segments_of (line s)) count)) _ r below long);
    } in
    let same : sources (state_with_entry s by (Slide count)) ≡ sources s = sources_slide s by count in
    subst (λ (n : ℕ). IsLongIn (line_goal_of s.config) n (segments_of (line (state_with_entry s by (Slide count))))) (ap length (sym same))
    (subst (λ (l : Live). IsLongIn (line_goal_of s.config) (length (sources s)) (segments_of l)) (sym lines) left)

-- ---- and what other events leave

-- segments that are long enough stay so when more are added
longer : (goal : LineGoal) (renditions : ℕ) (segments more : List LiveSegment) → IsLongIn goal renditions segments → IsLongIn goal renditions (segments ++ more)
longer goal renditions segments more long = record { each = λ r h. omega (arith, long.each r h, sum_by-append (length_in r) segments more) }

-- a state that follows has the same number of renditions
same_renditions : (a b : State) → Follows a b → length (sources b) ≡ length (sources a)
same_renditions a b (inl same) = ap (λ (s : State). length (sources s)) (sym same)
same_renditions a b (inr ab) = (sources_grow a b ab.later ab.continues).same

-- once all renditions have ended, they are unchanged in a state that follows
ended_sources : (a b : State) → Follows a b → list_all has_ended (sources a) ≡ true → sources b ≡ sources a
ended_sources a b (inl same) over = ap sources (sym same)
ended_sources a b (inr ab) over = over-stays (sources a) (sources b) (sources_grow a b ab.later ab.continues) over

-- a state that follows and has removed the same segments still has three target durations in each rendition, unless its line has ended
after_other : (a b : State) → IsState a → IsState b → Follows a b → (channel b).removed ≡ (channel a).removed → StaysLong a → StaysLong b
after_other a b state state_b follows removed stays some unended = elim (cases_Bool (list_all has_ended (sources a))) [
  | inl over ↦
      let same : sources b ≡ sources a = ended_sources a b follows over in
      let ends : has_line_ended (line b) ≡ true = line_has_ended b state_b ∙ ap (λ xs. list_all has_ended xs) same ∙ over in
      absurd (let never : false ≡ true = sym unended ∙ ends in cc)
  | inr going ↦
      let config : b.config ≡ a.config = (continues_of a b follows).config in
      let on = places_follow a b follows in
      let goal : LineGoal = line_goal_of a.config in
      let more = segments-stay goal (places a) on.more in
      let all : (whole b).line.segments ≡ (whole a).line.segments ++ more.0 =
      ap (λ (c : ConfigData). (line_of (line_goal_of c) (places b)).segments) config ∙ ap (λ (ps : List Place). (line_of goal ps).segments) on.is ∙ more.1 in
      let kept : segments_of (line b) ≡ segments_of (line a) ++ more.0 =
      ap (λ (n : ℕ). drop n (whole b).line.segments) removed ∙ ap (λ xs. drop (channel a).removed xs) all
      ∙ drop-append-le (channel a).removed (whole a).line.segments more.0 (removed_within a state) in
      let before = stays (omega (arith, some, removed)) (line_has_ended a state ∙ going) in
      let long = longer goal (length (sources a)) (segments_of (line a)) more.0 before in
      subst (λ (n : ℕ). IsLongIn (line_goal_of b.config) n (segments_of (line b))) (sym (same_renditions a b follows))
      (subst (λ (xs : List LiveSegment). IsLongIn (line_goal_of b.config) (length (sources a)) xs) (sym kept)
      (subst (λ (c : ConfigData). IsLongIn (line_goal_of c) (length (sources a)) (segments_of (line a) ++ more.0)) (sym config) long))
]

-- an event that removes no segment: any event but a slide
abbrev removes_none : Event → Type 0
removes_none (Begin r init bytes) = Unit {0}
removes_none (Accept r f bytes) = Unit {0}
removes_none (Finish r) = Unit {0}
removes_none (Slide count) = ⊥
removes_none (Trim r floor) = Unit {0}

-- an event that isn't a slide leaves the number of removed segments
same_removed : (s : State) (by : ℕ) (e : Event) → removes_none e → (channel (state_with_entry s by e)).removed ≡ (channel s).removed
same_removed s by (Begin r init bytes) none = ap (λ (ch : Channel). ch.removed) (channel_advanced s by (Begin r init bytes))
same_removed s by (Accept r f bytes) none = ap (λ (ch : Channel). ch.removed) (channel_advanced s by (Accept r f bytes))
same_removed s by (Finish r) none = ap (λ (ch : Channel). ch.removed) (channel_advanced s by (Finish r))
same_removed s by (Slide count) none = absurd none
same_removed s by (Trim r floor) none = ap (λ (ch : Channel). ch.removed) (channel_advanced s by (Trim r floor))

-- after an event that is new and isn't a slide, the line is as long as `StaysLong` says, if it was before
by_other : (s : State) (by : ℕ) (e : Event) → removes_none e → IsState s → IsFitting s e → outcome_of s e ≡ New → StaysLong s → StaysLong (state_with_entry s by e)
by_other s by e none state fits new stays =
    after_other s (state_with_entry s by e) state (advanced_state s by e state fits new) (advanced_follows s by e state fits new) (same_removed s by e none) stays

-- after any event that is new, the line is as long as `StaysLong` says, if it was before
after_new : (s : State) (by : ℕ) (event : Event) → IsState s → IsFitting s event → outcome_of s event ≡ New → StaysLong s → StaysLong (state_with_entry s by event)
after_new s by (Slide count) state fits new stays = after_slide s by count state new
after_new s by (Begin r init bytes) state fits new stays = by_other s by (Begin r init bytes) tt state fits new stays
after_new s by (Accept r f bytes) state fits new stays = by_other s by (Accept r f bytes) tt state fits new stays
after_new s by (Finish r) state fits new stays = by_other s by (Finish r) tt state fits new stays
after_new s by (Trim r floor) state fits new stays = by_other s by (Trim r floor) tt state fits new stays

-- in the opening state nothing was removed, so nothing is to show
at_first : (config : ConfigData) → StaysLong (first_state config)
unfolding channel_from
at_first config some unended = absurd (omega (arith, some))

-- `StaysLong` doesn't depend on the bytes that are kept
same_bytes : (s : State) (bytes : List HeldBytes) → StaysLong (record { config = s.config; log = s.log; bytes = bytes }) → StaysLong s
same_bytes s bytes stays = stays

-- once segments were removed, each state's line has three target durations in each rendition until it ends
pub stays_long_always : (s : State) → IsState s → StaysLong s
stays_long_always = every_state StaysLong same_bytes at_first after_new
