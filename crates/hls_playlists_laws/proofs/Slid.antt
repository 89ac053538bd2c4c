-- Once segments were removed from a live line, three target durations are left in each rendition until it ends.
use Rattle.std.proofs.Common.{◌≡◌, ℕ, zero, suc, ◌<◌, ◌≤◌, Bool, true, false, List, [], ◌∷◌, ◌++◌, length, drop, Result, Ok, Err, leb, arith, refl, sym, ap, subst, inl, inr, ◌∙◌, length-drop}
use Rattle.std.specs.Prelude.{nat_lt, ◌==◌, ◌||◌, if◌then◌else◌}
use Rattle.std.specs.List.{sum_by}
use Rattle.std.proofs.lemmas.Bool.{cases_Bool, cases_eq, and_parts, leb-true, ltb-false, or_parts}
use Rattle.std.proofs.lemmas.List.{drop-append-le}
use Rattle.std.proofs.lemmas.List.Sums.{sum_by-append}
use Rattle.hls_places_laws.specs.declared.line.goal.LineGoal.{LineGoal}
use Rattle.hls_places_laws.specs.declared.line.live_segment.LiveSegment.{LiveSegment}
use Rattle.hls_places_laws.specs.declared.fault.LineFault.{LineFault}
use Rattle.hls_places_laws.specs.declared.fault.LineFault.TheVariants.{TooMany, TooShort}
use Rattle.hls_places_laws.specs.Line.Lengths.{length_in, remaining_length, three_targets, each_below, is_long, renditions_of}
use Rattle.hls_places_laws.specs.Line.Live.{Live, without_front, has_ended, stays_long, may_slide, segments_of}
use Rattle.hls_core_laws.specs.declared.event.Event.{Event}
use Rattle.hls_core_laws.specs.declared.event.Event.TheVariants.{Begin, Accept, Finish, Slide, Trim}
use Rattle.hls_core_laws.specs.Config.{ConfigData}
use Rattle.hls_core_laws.specs.Channel.{Channel, channel_from}
use Rattle.hls_core_laws.specs.State.{State, HeldBytes, channel}
use Rattle.hls_core_laws.specs.IsState.{IsState}
use Rattle.hls_core_laws.specs.Follows.{Follows}
use Rattle.hls_core_laws.specs.Places.{sources, places}
use Rattle.hls_core_laws.specs.Line.{line_goal_of, line}
use Rattle.hls_core_laws.specs.Outcome.{New, outcome_of}
use Rattle.hls_core_laws.specs.Moves.{state_with_entry, IsFitting}
use Rattle.hls_core_laws.specs.Runs.{first_state}
use Rattle.hls_playlists_laws.proofs.Cited.{every_state, slides, channel_advanced, advanced_follows, sources_grow, continues_of, line_slides, line_stays, sources_slide}
use Rattle.hls_playlists_laws.proofs.Reached.{line-open}
use Rattle.hls_playlists_laws.proofs.Told.{whole, closed, closed-reached, removed-few, ended-stays, closed-follow}

-- three target durations in each rendition
pub record IsLongIn (line_goal : LineGoal) (renditions : ℕ) (segments : List LiveSegment) : Type 0 where
  pub each : (r : ℕ) → r < renditions → three_targets line_goal ≤ sum_by (length_in r) segments

-- if segments were removed and the line has not ended, three target durations are left in each rendition
abbrev pub StaysLong : State → Type 0
StaysLong s = 0 < (channel s).removed → has_ended (line s) ≡ false → IsLongIn (line_goal_of s.config) (length (sources s)) (segments_of (line s))

-- `each_below` is true only if the test passes for each number below the bound
each-at : (test : ℕ → Bool) (bound r : ℕ) → r < bound → each_below bound test ≡ true → test r ≡ true
each-at test zero r h is = absurd (omega arith)
each-at test (suc bound) r h is =
    let parts = and_parts (each_below bound test) (test bound) is in
    elim (cases_eq r bound) [
      | inl same ↦ ap test same ∙ parts.1
      | inr other ↦ each-at test bound r (omega (arith, other)) parts.0
    ]

-- what is long enough stays so as segments are added
longer : (line_goal : LineGoal) (renditions : ℕ) (segments more : List LiveSegment) → IsLongIn line_goal renditions segments → IsLongIn line_goal renditions (segments ++ more)
longer line_goal renditions segments more long = record {
  each = λ r h. omega (arith, long.each r h, sum_by-append (length_in r) segments more);
}

-- a state that follows another one has as many renditions
sources-count : (a b : State) → Follows a b → length (sources b) ≡ length (sources a)
sources-count a b (inl same) = ap (λ (s : State). length (sources s)) (sym same)
sources-count a b (inr ab) = (sources_grow a b ab.later ab.continues).same

-- while no segment is removed, the kept ones stay long enough in a state that follows
stays-follow : (a b : State) → IsState a → Follows a b → (channel b).removed ≡ (channel a).removed → StaysLong a → StaysLong b
stays-follow a b state follows removed stays some not_ended =
    elim (cases_Bool (has_ended (line a))) [
      | inl over ↦
          let config : b.config ≡ a.config = (continues_of a b follows).config in
          let same : sources b ≡ sources a = ended-stays a b state follows over in
          let lines : line b ≡ line a = line_stays a b config same removed in
          let never : false ≡ true = sym not_ended ∙ (ap has_ended lines ∙ over) in
          absurd (cc)
      | inr on ↦
          let config : b.config ≡ a.config = (continues_of a b follows).config in
          let appended = closed-follow a b follows in
          let count : length (sources b) ≡ length (sources a) = sources-count a b follows in
          let few : (channel a).removed ≤ length (closed a) = removed-few a state in
          let kept : segments_of (line b) ≡ segments_of (line a) ++ appended.appended =
          ap (λ (n : ℕ). drop n (closed b)) removed
          ∙ (ap (drop (channel a).removed) appended.is ∙ drop-append-le (channel a).removed (closed a) appended.appended few) in
          let before = stays (omega (arith, some, removed)) on in
          let long = longer (line_goal_of a.config) (length (sources a)) (segments_of (line a)) appended.appended before in
          subst (λ (n : ℕ). IsLongIn (line_goal_of b.config) n (segments_of (line b))) (sym count)
          (subst (λ (xs : List LiveSegment). IsLongIn (line_goal_of b.config) (length (sources a)) xs) (sym kept)
          (subst (λ (c : ConfigData). IsLongIn (line_goal_of c) (length (sources a)) (segments_of (line a) ++ appended.appended)) (sym config) long))
    ]

-- a slide removes some of the kept segments, and enough of the line is left
record MaySlide (live : Live) (n : ℕ) : Type 0 where
  some : 0 < n
  few : n ≤ length (segments_of live)
  stays : stays_long live n ≡ true

some-count : (n : ℕ) → (n == 0) ≡ false → 0 < n
some-count zero is = absurd (cc)
some-count (suc n) is = omega arith

-- the result of a slide, by whether enough of the line is left
abbrev long-or : Bool → Result (Unit {0}) LineFault
long-or b = (if b then Ok tt else Err TooShort)

long-of : (b : Bool) → long-or b ≡ Ok tt → b ≡ true
long-of true is = refl
long-of false is = absurd (cc)

-- the result of a slide, by whether it removes too many segments and whether enough of the line is left
abbrev slide-by : Bool → Bool → Result (Unit {0}) LineFault
slide-by many b = (if many then Err TooMany else long-or b)

-- a slide that passes its tests removes some of the kept segments, and enough of the line is left
may-by : (live : Live) (n : ℕ) (many : Bool) → (n == 0 || nat_lt (length (segments_of live)) n) ≡ many → slide-by many (stays_long live n) ≡ Ok tt → MaySlide live n
may-by live n true e is = absurd (cc)
may-by live n false e is =
    let parts = or_parts (n == 0) (nat_lt (length (segments_of live)) n) e in
    record { some = some-count n parts.0; few = ltb-false (length (segments_of live)) n parts.1; stays = long-of (stays_long live n) is }

-- a slide that is allowed removes some of the kept segments, and enough of the line is left
may-slide : (live : Live) (n : ℕ) → may_slide live n ≡ Ok tt → MaySlide live n
may-slide live n may = may-by live n (n == 0 || nat_lt (length (segments_of live)) n) refl may

or-right : (a b : Bool) → (a || b) ≡ true → a ≡ false → b ≡ true
or-right true b is none = absurd (cc)
or-right false b is none = is

-- a slide leaves three target durations in each rendition, unless the line has ended
stays-slide : (s : State) (by count : ℕ) → IsState s → outcome_of s (Slide count) ≡ New → StaysLong (state_with_entry s by (Slide count))
stays-slide s by count state new some not_ended =
    let may = may-slide (line s) count ((slides (may_slide (line s) count) (length s.log) new).may) in
    let lines : line (state_with_entry s by (Slide count)) ≡ without_front count (line s) = line_slides s by count in
    let on : has_ended (line s) ≡ false = sym (ap has_ended lines) ∙ not_ended in
    let long = or-right (has_ended (line s)) (is_long (line_goal_of s.config) (renditions_of (whole s).line.segment_start) (segments_of (line s)) count) may.stays on in
    let any : 0 < length (closed s) = omega (arith, may.some, may.few, length-drop (channel s).removed (closed s)) in
    let begun = line-open (line_goal_of s.config) (places s) any in
    let renditions : renditions_of (whole s).line.segment_start ≡ length (sources s) =
    ap renditions_of begun.is ∙ ((closed-reached s state).segment_start begun.o begun.is).count in
    let left : IsLongIn (line_goal_of s.config) (length (sources s)) (drop count (segments_of (line s))) = record {
      each = λ r h.
          let below : r < renditions_of (whole s).line.segment_start = omega (arith, renditions, h) in
          leb-true _ _ (each-at (λ k. leb (three_targets (line_goal_of s.config)) (remaining_length k (segments_of (line s)) count)) _ r below long);
    } in
    let same : sources (state_with_entry s by (Slide count)) ≡ sources s = sources_slide s by count in
    subst (λ (n : ℕ). IsLongIn (line_goal_of s.config) n (segments_of (line (state_with_entry s by (Slide count))))) (ap length (sym same))
    (subst (λ (l : Live). IsLongIn (line_goal_of s.config) (length (sources s)) (segments_of l)) (sym lines) left)

-- each event that is New keeps three target durations in a line with removed segments
stays-new : (s : State) (by : ℕ) (event : Event) → IsState s → IsFitting s event → outcome_of s event ≡ New → StaysLong s → StaysLong (state_with_entry s by event)
stays-new s by (Slide count) state fits new stays = stays-slide s by count state new
stays-new s by (Begin r init bytes) state fits new stays =
    let event : Event = Begin r init bytes in
    stays-follow s (state_with_entry s by event) state (advanced_follows s by event state fits new) (ap (λ (ch : Channel). ch.removed) (channel_advanced s by event)) stays
stays-new s by (Accept r f bytes) state fits new stays =
    let event : Event = Accept r f bytes in
    stays-follow s (state_with_entry s by event) state (advanced_follows s by event state fits new) (ap (λ (ch : Channel). ch.removed) (channel_advanced s by event)) stays
stays-new s by (Finish r) state fits new stays =
    let event : Event = Finish r in
    stays-follow s (state_with_entry s by event) state (advanced_follows s by event state fits new) (ap (λ (ch : Channel). ch.removed) (channel_advanced s by event)) stays
stays-new s by (Trim r floor) state fits new stays =
    let event : Event = Trim r floor in
    stays-follow s (state_with_entry s by event) state (advanced_follows s by event state fits new) (ap (λ (ch : Channel). ch.removed) (channel_advanced s by event)) stays

-- in the first state of a configuration no segment is removed
stays-first : (config : ConfigData) → StaysLong (first_state config)
unfolding channel_from
stays-first config some not_ended = absurd (omega (arith, some))

-- a state's stored bytes don't matter for the length of its line
stays-same : (s : State) (bytes : List HeldBytes) → StaysLong (record { config = s.config; log = s.log; bytes = bytes }) → StaysLong s
stays-same s bytes stays = stays

-- in every state three target durations are left, if segments were removed and the line has not ended
pub stays-long : (s : State) → IsState s → StaysLong s
stays-long = every_state StaysLong stays-same stays-first stays-new
