-- The segments that a renewed channel has removed: those between the cut and the old channel's front.
use Rattle.std.proofs.Common.{◌≡◌, ◌∙◌, ℕ, zero, suc, ◌+◌, ◌-◌, ◌≤◌, Bool, true, false, Option, Some, None, List, [], ◌∷◌, ◌++◌, length, take, refl, sym, ap, inl, inr, arith}
use Rattle.std.specs.Prelude.{◌⊎◌, if◌then◌else◌, slice_get}
use Rattle.std.proofs.lemmas.List.{length-take}
use Rattle.hls_check_tables.specs.declared.spot.Spot.{Spot}
use Rattle.hls_media_laws.specs.declared.facts.Facts.{Facts}
use Rattle.hls_record.specs.RecordingData.{RecordingData, unit_at}
use Rattle.hls_places_laws.specs.declared.place.Place.{Place}
use Rattle.hls_places_laws.specs.declared.line.live_segment.LiveSegment.{LiveSegment}
use Rattle.hls_places_laws.specs.Line.Live.{Live, front_of, segments_of}
use Rattle.hls_core_laws.specs.declared.event.Event.{Event}
use Rattle.hls_core_laws.specs.declared.event.Event.TheVariants.{Begin, Accept, Finish, Slide, Trim}
use Rattle.hls_core_laws.specs.Channel.{Channel, channel_after, channel_from}
use Rattle.hls_core_laws.specs.State.{State, channel}
use Rattle.hls_core_laws.specs.Line.{line}
use Rattle.hls_core_laws.specs.Places.{floors}
use Rattle.hls_core_laws.specs.Outcome.{Outcome, New, outcome_of}
use Rattle.hls_core_laws.specs.Moves.{logged_event, state_with_entry}
use Rattle.hls_core_laws.specs.Runs.{state_by_outcome, next_state, replayed_state}
use Rattle.hls_core_laws.proofs.Callers.{channel_advanced}
use Rattle.hls_core.specs.Getters.{recording_of, finished_at}
use Rattle.hls_playlists_laws.specs.JoinedLists.{is_first_marked}
use Rattle.hls_renewal.specs.declared.line_cut.LineCut.{LineCut}
use Rattle.hls_renewal.specs.Cuts.{cut_at, cut_at_front, cut_in, first_cut, front_cut, may_begin_at}
use Rattle.hls_renewal.specs.Renewals.{AreNew, Renews, end_of, media_from, rendition_from, renditions_from, renewal_events, renewal_start, slide_by, units_from, with_unit}
use Rattle.hls_renewal.proofs.CutSearch.{removed_segments, segments}

-- ---- what events remove

-- the number of removed segments after an event, if it was n before
abbrev removed_by : Event → ℕ → ℕ
removed_by (Begin r init bytes) n = n
removed_by (Accept r f bytes) n = n
removed_by (Finish r) n = n
removed_by (Slide count) n = n + count
removed_by (Trim r floor) n = n

-- the number of removed segments after a list of events, if it was n before
abbrev removed_run : List (ℕ × Event) → ℕ → ℕ
removed_run [] n = n
removed_run (e ∷ es) n = removed_run es (removed_by e.1 n)

-- an event of the log removes as many segments as `removed_by` says
one_removal : (ch : Channel) (e : Event) → (channel_after (logged_event e) ch).removed ≡ removed_by e ch.removed
one_removal ch (Begin r init bytes) = refl
one_removal ch (Accept r f bytes) = refl
one_removal ch (Finish r) = refl
one_removal ch (Slide count) = refl
one_removal ch (Trim r floor) = refl

-- new events remove as many segments as `removed_run` says
pub all_removals : (s : State) (es : List (ℕ × Event)) → AreNew s es → (channel (replayed_state s es)).removed ≡ removed_run es (channel s).removed
all_removals s [] new = refl
all_removals s (e ∷ es) new =
    let is : next_state s e.0 e.1 ≡ state_with_entry s e.0 e.1 = ap (λ (o : Outcome). state_by_outcome o (state_with_entry s e.0 e.1) s) new.0 in
    let here : (channel (next_state s e.0 e.1)).removed ≡ removed_by e.1 (channel s).removed =
    ap (λ (x : State). (channel x).removed) is ∙ ap (λ (x : Channel). x.removed) (channel_advanced s e.0 e.1) ∙ one_removal (channel s) e.1 in
    all_removals (next_state s e.0 e.1) es new.1 ∙ ap (λ (n : ℕ). removed_run es n) here

-- ---- the renditions remove nothing, the slide all

-- the segments that two lists of events remove, one after the other
removed_append : (xs ys : List (ℕ × Event)) (n : ℕ) → removed_run (xs ++ ys) n ≡ removed_run ys (removed_run xs n)
removed_append [] ys n = refl
removed_append (e ∷ xs) ys n = removed_append xs ys (removed_by e.1 n)

-- the event of a unit removes no segment if those after it remove none
by_unit : (r : ℕ) (f : Option Facts) (unit : Option (List ℕ)) (more : List (ℕ × Event)) (n : ℕ) → ((k : ℕ) → removed_run more k ≡ k) → removed_run (with_unit r f unit more) n ≡ n
by_unit r None unit more n rest = refl
by_unit r (Some f) None more n rest = refl
by_unit r (Some f) (Some unit) more n rest = rest n

-- the events of a recording's units remove no segment
by_units : (r : ℕ) (rec : RecordingData) (from count n : ℕ) → removed_run (units_from r rec from count) n ≡ n
by_units r rec from zero n = refl
by_units r rec from (suc count) n =
    by_unit r (slice_get rec.facts from) (unit_at rec from) (units_from r rec (suc from) count) n (λ k. by_units r rec (suc from) count k)

-- the init section and the units of a rendition remove no segment
by_media : (r from : ℕ) (rec : Option RecordingData) (n : ℕ) → removed_run (media_from r rec from) n ≡ n
by_media r from None n = refl
by_media r from (Some rec) n = by_units r rec from (length rec.facts - from) n

-- the end of a rendition removes no segment
by_end : (r : ℕ) (finished : Option Bool) (n : ℕ) → removed_run (end_of r finished) n ≡ n
by_end r None n = refl
by_end r (Some true) n = refl
by_end r (Some false) n = refl

-- the events of the renditions remove no segment
pub by_renditions : (a : State) (r : ℕ) (spots : List Spot) (n : ℕ) → removed_run (renditions_from a r spots) n ≡ n
by_renditions a r [] n = refl
by_renditions a r (spot ∷ spots) n =
    removed_append (rendition_from a r spot.fragment) (renditions_from a (suc r) spots) n
    ∙ ap (λ k. removed_run (renditions_from a (suc r) spots) k)
    (removed_append (media_from r (recording_of a r) spot.fragment) (end_of r (finished_at a r)) n
    ∙ ap (λ k. removed_run (end_of r (finished_at a r)) k) (by_media r spot.fragment (recording_of a r) n)
    ∙ by_end r (finished_at a r) n)
    ∙ by_renditions a (suc r) spots n

-- a slide by k segments removes k
by_slide : (k n : ℕ) → removed_run (slide_by k) n ≡ n + k
by_slide zero n = omega arith
by_slide (suc k) n = refl

-- before the events of a renewal, no segment is removed
pub none_removed : (a : State) (cut : LineCut) → (channel (renewal_start a cut)).removed ≡ 0
unfolding channel_from
none_removed a cut = refl

-- ---- the cut is at the front or before

bool_cases : (b : Bool) → (b ≡ true) ⊎ (b ≡ false)
bool_cases true = inl refl
bool_cases false = inr refl

-- the cut at the front follows as many segments as the line has removed
front_removed : (s : State) (o : Option Place) (c : LineCut) → cut_at_front (floors s) (line s) o ≡ Some c → c.segments ≡ (line s).removed
front_removed s None c found = absurd (cc)
front_removed s (Some p) c found =
    let made = cut_at (line s).removed (line s).breaks (is_first_marked (segments_of (line s))) p in
    elim (bool_cases (may_begin_at (floors s) p)) [
      | inl may ↦
          let is : Some made ≡ Some c = sym (ap (λ (b : Bool). if b then Some made else None) may) ∙ found in
          let same : made ≡ c = cc in
          sym (ap (λ (x : LineCut). x.segments) same)
      | inr not ↦
          let none : None ≡ Some c = sym (ap (λ (b : Bool). if b then Some made else None) not) ∙ found in
          absurd (cc)
    ]

-- a cut that a search finds follows at most `bound` segments, if the segments searched and the other cut do
removed_in : (above : List ℕ) (n marks bound : ℕ) (rest : List LiveSegment) (other : Option LineCut) (c : LineCut) → (other ≡ Some c → c.segments ≤ bound)
    → n + length rest ≤ bound → cut_in above n marks rest other ≡ Some c → c.segments ≤ bound
removed_in above n marks bound [] other c last few found = last found
removed_in above n marks bound (segment ∷ rest) other c last few found =
    let made = cut_at n marks segment.mark segment.from in
    let more = marks + (if segment.mark then 1 else 0) in
    elim (bool_cases (may_begin_at above segment.from)) [
      | inl may ↦
          let is : Some made ≡ Some c = sym (ap (λ (b : Bool). if b then Some made else cut_in above (suc n) more rest other) may) ∙ found in
          let same : made ≡ c = cc in
          let number : n ≡ c.segments = ap (λ (x : LineCut). x.segments) same in
          omega (arith, number, few)
      | inr not ↦
          removed_in above (suc n) more bound rest other c last (omega (arith, few))
          (sym (ap (λ (b : Bool). if b then Some made else cut_in above (suc n) more rest other) not) ∙ found)
    ]

-- the first cut follows at most as many segments as the line has removed
pub cut_removed : (s : State) (c : LineCut) → first_cut s ≡ Some c → c.segments ≤ (line s).removed
cut_removed s c found =
    let few = length-take (line s).removed (segments s) in
    removed_in (floors s) 0 0 (line s).removed (removed_segments s) (front_cut s) c
    (λ is. let same = front_removed s (front_of (line s)) c is in omega (arith, same))
    (omega (arith, few)) found

-- ---- so the removed segments are as many as before

-- the old channel has removed the segments before the cut, and as many after it as the renewed one has
pub removed_alike : (a b : State) (renews : Renews a b) → (line a).removed ≡ (renews.cut).segments + (line b).removed
removed_alike a b renews =
    let cut = renews.cut in
    let start = renewal_start a cut in
    let slid = (line a).removed - cut.segments in
    let all : (channel b).removed ≡ removed_run (renewal_events a cut) (channel start).removed =
    ap (λ (x : State). (channel x).removed) renews.is ∙ all_removals start (renewal_events a cut) renews.new in
    let run : removed_run (renewal_events a cut) (channel start).removed ≡ (channel start).removed + slid =
    removed_append (renditions_from a 0 (cut.place).spots) (slide_by slid) (channel start).removed
    ∙ ap (λ n. removed_run (slide_by slid) n) (by_renditions a 0 (cut.place).spots (channel start).removed)
    ∙ by_slide slid (channel start).removed in
    omega (arith, all, run, none_removed a cut, cut_removed a cut renews.first)
