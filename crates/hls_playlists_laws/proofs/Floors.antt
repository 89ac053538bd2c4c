-- No unit that the live line names is trimmed: in each rendition the line begins at the first kept unit, or after it.
use Rattle.std.proofs.Common.{◌≡◌, ℕ, ◌<◌, ◌≤◌, List, [], ◌∷◌, ◌++◌, length, Option, Some, None, Bool, true, false, arith, refl, sym, ap, subst, inl, inr, ◌∙◌, All}
use Rattle.std.specs.Prelude.{slice_get, slice_set, map, nat_le, nat_lt, if◌then◌else◌}
use Rattle.std.proofs.lemmas.Bool.{ltb-false}
use Rattle.std.proofs.lemmas.Option.{slice_get_within}
use Rattle.hls_check_tables.specs.Tables.{spot_in}
use Rattle.hls_places_laws.specs.declared.place.Place.{Place}
use Rattle.hls_places_laws.specs.declared.line.goal.LineGoal.{LineGoal}
use Rattle.hls_places_laws.specs.declared.line.live_segment.LiveSegment.{LiveSegment}
use Rattle.hls_places_laws.specs.declared.line.segment_start.SegmentStart.{SegmentStart}
use Rattle.hls_places_laws.specs.Sources.{sources_of}
use Rattle.hls_places_laws.specs.Places.{places_of}
use Rattle.hls_places_laws.specs.Line.Live.{Live, front_of, front_place, live_of, live_after_all, without_front}
use Rattle.hls_places_laws.specs.Line.Progress.{LineProgress, no_progress}
use Rattle.hls_places_laws.proofs.Callers.{progress-none}
use Rattle.hls_core_laws.specs.declared.rendition.Rendition.{Rendition}
use Rattle.hls_core_laws.specs.declared.event.Event.{Event}
use Rattle.hls_core_laws.specs.declared.event.Event.TheVariants.{Begin, Accept, Finish, Slide, Trim}
use Rattle.hls_core_laws.specs.declared.refusal.Refusal.TheVariants.{TrimTooFar}
use Rattle.hls_core_laws.specs.Config.{ConfigData}
use Rattle.hls_core_laws.specs.Channel.{Channel, Lane, no_lane, fresh_lane, lane, with_begin, with_facts, with_finish, with_floor, channel_from}
use Rattle.hls_core_laws.specs.State.{State, HeldBytes, channel}
use Rattle.hls_core_laws.specs.IsState.{IsState}
use Rattle.hls_core_laws.specs.Follows.{Follows}
use Rattle.hls_core_laws.specs.Places.{facts_of, is_finished, tolerance_of, places, sources}
use Rattle.hls_core_laws.specs.Line.{line_goal_of, line}
use Rattle.hls_core_laws.specs.Outcome.{New, Repeated, Refused, new_or_full, outcome_of, trim, trim_limit}
use Rattle.hls_core_laws.specs.Moves.{IsFitting, state_with_entry}
use Rattle.hls_core_laws.specs.Runs.{first_state}
use Rattle.hls_core_laws.proofs.Callers.{advanced_follows, at_or, at_set, channel_advanced, continues_of, every_state, line_goes_on, line_slides, mapped_at, may_add, ordered, places_follow, sources_count, sources_slide, state_of}
use Rattle.hls_playlists_laws.proofs.RisingLines.{ArePlacesRising, IsRisingFrom, IsRisingLine, last-append, last_of, line-rises, places-rest, places-rising, rises-without}

-- a rendition's unit at a place
abbrev pub unit_at : ℕ → Place → ℕ
unit_at r p = (spot_in p.spots r).fragment

-- no condition on a place
abbrev pub AnyPlace : Place → Type 0
AnyPlace p = Unit {0}

-- in rendition r, the line's segments, open place and best place are in order, from unit `floor` on up to the last of the places
abbrev IsAbove : ℕ → ℕ → List Place → LineProgress → Type 0
IsAbove r floor places t = IsRisingLine AnyPlace (unit_at r) floor (last_of (unit_at r) 0 places) t

-- in each rendition the line begins at the first kept unit, or after it
abbrev pub KeepsUnits : State → Type 0
KeepsUnits s = (r : ℕ) (l : Lane) → slice_get (channel s).lanes r ≡ Some l → IsAbove r l.floor (places s) (line s).progress

-- the places of a state never go back
pub places-rise : (P : Place → Type 0) (s : State) → IsState s → All P (places s) → (r : ℕ) (l : Lane) → slice_get (channel s).lanes r ≡ Some l →
    ArePlacesRising P (unit_at r) 0 (places s)
places-rise P s state each r l at =
    let below : r < length (sources s) = omega (arith, sources_count s, slice_get_within (channel s).lanes r l at) in
    places-rising P (unit_at r) 0 (places s) each (λ k d h. omega arith)
    (λ i j d h within. ((ordered s state).pairs i j d h within).after.keeps r below)

-- without an init section there are no places
places-none : (rs : List Rendition) (r : ℕ) (l : Lane) → slice_get (map fresh_lane rs) r ≡ Some l →
    places_of (sources_of (map facts_of (map fresh_lane rs)) (map tolerance_of rs) (map is_finished (map fresh_lane rs))) ≡ []
places-none [] r l at = absurd (cc)
places-none (x ∷ rs) r l at = refl

-- a line without places is above unit 0
fresh-above : (line_goal : LineGoal) (r : ℕ) → IsAbove r 0 [] (live_of line_goal [] 0).progress
fresh-above line_goal r =
    subst (λ (t : LineProgress). IsRisingFrom AnyPlace (unit_at r) 0 0 [] None t.best) (sym (progress-none line_goal 0 no_progress)) refl

-- in the first state of a configuration no unit that the line names is trimmed
keeps-first : (config : ConfigData) → KeepsUnits (first_state config)
unfolding channel_from
keeps-first config r l at =
    let none : places (first_state config) ≡ [] = places-none config.renditions r l at in
    let was = mapped_at fresh_lane config.renditions r l at in
    subst (λ (x : Lane). IsAbove r x.floor (places (first_state config)) (line (first_state config)).progress) was.2
    (subst (λ (ps : List Place). IsAbove r 0 ps (live_of (line_goal_of config) ps 0).progress) (sym none) (fresh-above (line_goal_of config) r))

-- if no segment is removed, a line above a floor stays above it in a state that follows
keeps-grown : (a b : State) → IsState a → Follows a b → (channel b).removed ≡ (channel a).removed → (r floor : ℕ) (l : Lane) →
    slice_get (channel b).lanes r ≡ Some l → IsAbove r floor (places a) (line a).progress → IsAbove r floor (places b) (line b).progress
keeps-grown a b state follows removed r floor l at above =
    let on = places_follow a b follows in
    let rising : ArePlacesRising AnyPlace (unit_at r) 0 (places a ++ on.more) =
    subst (ArePlacesRising AnyPlace (unit_at r) 0) on.is (places-rise AnyPlace b (state_of a b follows state) (λ k d h. tt) r l at) in
    let more = places-rest AnyPlace (unit_at r) 0 (places a) on.more rising in
    let grown = line-rises AnyPlace (unit_at r) (line a).line_goal (line a).removed floor (last_of (unit_at r) 0 (places a)) (line a).progress on.more above more in
    let lines : line b ≡ live_after_all (line a) on.more = line_goes_on a b on.more state (continues_of a b follows).config on.is removed in
    let last : last_of (unit_at r) 0 (places b) ≡ last_of (unit_at r) (last_of (unit_at r) 0 (places a)) on.more =
    ap (last_of (unit_at r) 0) on.is ∙ last-append (unit_at r) 0 (places a) on.more in
    subst (λ (live : Live). IsRisingLine AnyPlace (unit_at r) floor (last_of (unit_at r) 0 (places b)) live.progress) (sym lines)
    (subst (λ (h : ℕ). IsRisingLine AnyPlace (unit_at r) floor h (live_after_all (line a) on.more).progress) (sym last) grown)

-- a rendition's lane before an event that doesn't trim
record WasLane (ch : Channel) (r : ℕ) (l : Lane) : Type 0 where
  lane : Lane
  at : slice_get ch.lanes r ≡ Some lane
  floor : l.floor ≡ lane.floor

-- replacing a lane by one with the same floor changes no rendition's floor
was-set : (ch : Channel) (q : ℕ) (old new : Lane) (r : ℕ) (l : Lane) → slice_get ch.lanes q ≡ Some old → new.floor ≡ old.floor →
    slice_get (slice_set ch.lanes q new) r ≡ Some l → WasLane ch r l
was-set ch q old new r l there floor at = elim (at_set ch.lanes q new r l at) [
  | inl here ↦ record {
    lane = old;
    at = ap (slice_get ch.lanes) here.0 ∙ there;
    floor = ap (λ (x : Lane). x.floor) (sym here.1) ∙ floor;
  }
  | inr other ↦ record { lane = l; at = other.1; floor = refl }
]

-- an event that replaces a lane by one with the same floor changes no rendition's floor
was-lane : (s : State) (by : ℕ) (event : Event) (q : ℕ) (old new : Lane) → channel (state_with_entry s by event) ≡ record { lanes = slice_set (channel s).lanes q new; removed = (channel s).removed } →
    slice_get (channel s).lanes q ≡ Some old → new.floor ≡ old.floor → (r : ℕ) (l : Lane) → slice_get (channel (state_with_entry s by event)).lanes r ≡ Some l →
    WasLane (channel s) r l
was-lane s by event q old new is there floor r l at =
    was-set (channel s) q old new r l there floor (ap (λ (ch : Channel). slice_get ch.lanes r) (sym is) ∙ at)

-- if neither the removed segments nor a rendition's floor change, the line stays above the floor in a state that follows
keeps-was : (s b : State) → IsState s → Follows s b → (channel b).removed ≡ (channel s).removed → (r : ℕ) (l : Lane) → slice_get (channel b).lanes r ≡ Some l →
    WasLane (channel s) r l → KeepsUnits s → IsAbove r l.floor (places b) (line b).progress
keeps-was s b state follows removed r l at was keeps =
    subst (λ (n : ℕ). IsAbove r n (places b) (line b).progress) (sym was.floor)
    (keeps-grown s b state follows removed r was.lane.floor l at (keeps r was.lane was.at))

-- a line that rises is above each floor that is not after its front
raised : (r low floor h : ℕ) (segments : List LiveSegment) (segment_start : Option SegmentStart) (best : Option Place) →
    IsRisingFrom AnyPlace (unit_at r) low h segments segment_start best → floor ≤ trim_limit (front_place segments segment_start) r →
    IsRisingFrom AnyPlace (unit_at r) floor h segments segment_start best
raised r low floor h [] None None is few = omega (arith, few)
raised r low floor h [] None (Some b) is few = absurd is
raised r low floor h (x ∷ xs) None best is few = absurd is
raised r low floor h [] (Some o) best is few = (few, is.1, is.2)
raised r low floor h (x ∷ xs) (Some o) best is few = ((few, is.0.1, is.0.2), is.1, is.2)

-- a New trim isn't refused
passed : (b : Bool) (o : _) → (if b then Refused TrimTooFar else o) ≡ New → b ≡ false
passed true o is = absurd (cc)
passed false o is = refl

-- a trim of a known rendition that is New has a floor that is at most the limit
far-by : (b : Bool) (limit floor entries : ℕ) → (if b then Repeated else (if nat_lt limit floor then Refused TrimTooFar else new_or_full entries)) ≡ New →
    floor ≤ limit
far-by true limit floor entries is = absurd (cc)
far-by false limit floor entries is = ltb-false limit floor (passed (nat_lt limit floor) (new_or_full entries) is)

-- the same for a rendition that may be unknown
not-far : (o : Option Lane) (limit floor entries : ℕ) → trim o limit floor entries ≡ New → floor ≤ limit
not-far None limit floor entries is = absurd (cc)
not-far (Some l) limit floor entries is = far-by (nat_le floor l.floor) limit floor entries is

-- a trim that is New trims no unit that the line names
keeps-trim : (s : State) (by q floor : ℕ) → IsState s → IsFitting s (Trim q floor) → outcome_of s (Trim q floor) ≡ New → KeepsUnits s →
    KeepsUnits (state_with_entry s by (Trim q floor))
keeps-trim s by q floor state fits new keeps r l at =
    let b : State = state_with_entry s by (Trim q floor) in
    let follows = advanced_follows s by (Trim q floor) state fits new in
    let is = channel_advanced s by (Trim q floor) in
    let removed : (channel b).removed ≡ (channel s).removed = ap (λ (ch : Channel). ch.removed) is in
    let may = may_add s (Trim q floor) fits new in
    let set : slice_get (slice_set (channel s).lanes q (with_floor floor (lane (channel s) q))) r ≡ Some l =
    ap (λ (ch : Channel). slice_get ch.lanes r) (sym is) ∙ at in
    elim (at_set (channel s).lanes q (with_floor floor (lane (channel s) q)) r l set) [
      | inl here ↦
          let before = keeps q may.lane may.at in
          let low : floor ≤ trim_limit (front_of (line s)) q =
          not-far (slice_get (channel s).lanes q) (trim_limit (front_of (line s)) q) floor (length s.log) new in
          let above : IsAbove q floor (places s) (line s).progress =
          raised q may.lane.floor floor _ (line s).progress.line.segments (line s).progress.line.segment_start (line s).progress.best before low in
          let there : slice_get (channel b).lanes q ≡ Some l = ap (slice_get (channel b).lanes) (sym here.0) ∙ at in
          let grown = keeps-grown s b state follows removed q floor l there above in
          subst (λ (n : ℕ). IsAbove n l.floor (places b) (line b).progress) (sym here.0)
          (subst (λ (x : Lane). IsAbove q x.floor (places b) (line b).progress) here.1 grown)
      | inr other ↦ keeps-grown s b state follows removed r l.floor l at (keeps r l other.1)
    ]

-- a slide leaves the line above each rendition's floor
keeps-slide : (s : State) (by count : ℕ) → KeepsUnits s → KeepsUnits (state_with_entry s by (Slide count))
keeps-slide s by count keeps r l at =
    let b : State = state_with_entry s by (Slide count) in
    let was : slice_get (channel s).lanes r ≡ Some l = ap (λ (ch : Channel). slice_get ch.lanes r) (sym (channel_advanced s by (Slide count))) ∙ at in
    let same : places b ≡ places s = ap places_of (sources_slide s by count) in
    let slid = rises-without AnyPlace (unit_at r) count l.floor (last_of (unit_at r) 0 (places s)) (line s).progress.line.segments
    (line s).progress.line.segment_start (line s).progress.best (keeps r l was) in
    subst (λ (live : Live). IsAbove r l.floor (places b) live.progress) (sym (line_slides s by count))
    (subst (λ (ps : List Place). IsAbove r l.floor ps (without_front count (line s)).progress) (sym same) slid)

-- no event that is New trims a unit that the line names
keeps-new : (s : State) (by : ℕ) (event : Event) → IsState s → IsFitting s event → outcome_of s event ≡ New → KeepsUnits s → KeepsUnits (state_with_entry s by event)
keeps-new s by (Begin q init bytes) state fits new keeps r l at =
    let event : Event = Begin q init bytes in
    let may = may_add s event fits new in
    let is = channel_advanced s by event in
    let same : (lane (channel s) q).floor ≡ may.lane.floor = ap (λ (x : Lane). x.floor) (at_or (channel s).lanes q no_lane may.lane may.at) in
    keeps-was s (state_with_entry s by event) state (advanced_follows s by event state fits new) (ap (λ (ch : Channel). ch.removed) is) r l at
    (was-lane s by event q may.lane (with_begin init (length bytes) (lane (channel s) q)) is may.at same r l at) keeps
keeps-new s by (Accept q f bytes) state fits new keeps r l at =
    let event : Event = Accept q f bytes in
    let may = may_add s event fits new in
    let is = channel_advanced s by event in
    let same : (lane (channel s) q).floor ≡ may.lane.floor = ap (λ (x : Lane). x.floor) (at_or (channel s).lanes q no_lane may.lane may.at) in
    keeps-was s (state_with_entry s by event) state (advanced_follows s by event state fits new) (ap (λ (ch : Channel). ch.removed) is) r l at
    (was-lane s by event q may.lane (with_facts f (lane (channel s) q)) is may.at same r l at) keeps
keeps-new s by (Finish q) state fits new keeps r l at =
    let event : Event = Finish q in
    let may = may_add s event fits new in
    let is = channel_advanced s by event in
    let same : (lane (channel s) q).floor ≡ may.lane.floor = ap (λ (x : Lane). x.floor) (at_or (channel s).lanes q no_lane may.lane may.at) in
    keeps-was s (state_with_entry s by event) state (advanced_follows s by event state fits new) (ap (λ (ch : Channel). ch.removed) is) r l at
    (was-lane s by event q may.lane (with_finish (lane (channel s) q)) is may.at same r l at) keeps
keeps-new s by (Slide count) state fits new keeps r l at = keeps-slide s by count keeps r l at
keeps-new s by (Trim q floor) state fits new keeps r l at = keeps-trim s by q floor state fits new keeps r l at

-- a state's stored bytes don't matter for which units its line keeps
keeps-same : (s : State) (bytes : List HeldBytes) → KeepsUnits (record { config = s.config; log = s.log; bytes = bytes }) → KeepsUnits s
keeps-same s bytes keeps = keeps

-- in each state and rendition the line begins at the first kept unit, or after it
pub keeps-units : (s : State) → IsState s → KeepsUnits s
keeps-units = every_state KeepsUnits keeps-same keeps-first keeps-new
