-- The code's tests imply that an event is New, and the rendition state that it puts in yields the state of the move.
use Rattle.std.proofs.Common.{arith, ◌≡◌, ℕ, ◌+◌, ◌-◌, ◌^◌, ◌<◌, ◌≤◌, Bool, true, false, List, [], ◌∷◌, ◌++◌, Option, Some, None, length, refl, sym, ap, subst, ◌∙◌, Result, Ok, Err, IfOk, IfErr, Global}
use Rattle.std.specs.Prelude.{slice_get, slice_set, nat_le}
use Rattle.std.specs.Str.{bytes_eq}
use Rattle.std.specs.declared.sync.Arc.{Arc}
use Rattle.std.proofs.lemmas.Bool.{le-ltb, lt-ltb, lt-leb, leb-false, le-leb}
use Rattle.hls_media_laws.specs.InitData.{InitData}
use Rattle.hls_media_laws.specs.declared.facts.Facts.{Facts}
use Rattle.hls_media_laws.specs.IsInitOrUnit.{IsInit}
use Rattle.hls_media_laws.specs.FactLists.{last_end}
use Rattle.hls_record.specs.RecordingData.{RecordingData, total_of, empty_recording, with_unit, trimmed_recording, duplicate_of}
use Rattle.hls_core_laws.specs.declared.event.Entry.{Entry}
use Rattle.hls_core_laws.specs.declared.event.Event.{Event}
use Rattle.hls_core_laws.specs.declared.event.Event.TheVariants.{Begin, Accept, Finish, Slide, Trim}
use Rattle.hls_core_laws.specs.Channel.{Lane, no_lane, lane, channel_after, with_begin, with_facts, with_finish, with_floor}
use Rattle.hls_core_laws.specs.State.{State, HeldBytes, no_bytes, channel, log_limit}
use Rattle.hls_places_laws.specs.declared.fault.LineFault.{LineFault}
use Rattle.hls_places_laws.specs.Line.Live.{front_of, may_slide}
use Rattle.hls_core_laws.specs.Places.{sources}
use Rattle.hls_core_laws.specs.Line.{line}
use Rattle.hls_core.proofs.Cited.{front_within, sources_trim, at_or, set_same, units_are_logged, advanced_state, advanced_continues, sources_count, source_of}
use Rattle.std.proofs.lemmas.Option.{slice_get_within}
use Rattle.hls_core_laws.specs.IsState.{IsState}
use Rattle.hls_core_laws.specs.declared.refusal.Refusal.{Refusal}
use Rattle.hls_core_laws.specs.declared.refusal.Refusal.TheVariants.{UnknownRendition, NoInit, InitChanged, Overlap, Finished, LedgerFull, TrimTooFar, RecordingFull, Memory}
use Rattle.hls_core_laws.specs.Outcome.{New, Repeated, Refused, outcome_of, held_bytes, begin, begin_with_init, accept, accept_with_duplicate, finish, finish_with_init, slide, trim, trim_limit}
use Rattle.hls_core_laws.specs.Moves.{logged_event, entry_of, state_with_entry, push_unit_bytes, drop_unit_bytes, IsFitting}
use Rattle.hls_record.specs.IsRecorded.{IsRecorded}
use Rattle.hls_core_laws.specs.Follows.{Extends}
use Rattle.hls_core.specs.declared.rendition_state.RenditionState.{RenditionState}
use Rattle.hls_core.specs.declared.snapshot.Snapshot.{Snapshot}
use Rattle.hls_core.specs.declared.stepped.Stepped.{Stepped}
use Rattle.hls_core.specs.declared.stepped.Stepped.TheVariants as stepped
use Rattle.hls_core.specs.StepResult.{Steps}
use Rattle.hls_core.specs.MayBegin.{MayBegin, BeginMeets, MayAccept}
use Rattle.hls_core.specs.RenditionStates.{lane_of, lane_from, held_of, held_from, HasRenditionState, with_rendition, MayReplaceRendition, MayTrim, HasValidRecording}

-- the event is New, this state of rendition r yields the state after the event, and it may replace the old one
pub record Goes (s : State) (by : ℕ) (event : Event) (r : ℕ) (rendition_state : RenditionState) : Type 0 where
  pub new : outcome_of s event ≡ New
  pub is : with_rendition s (entry_of by event) r rendition_state ≡ state_with_entry s by event
  pub take : MayReplaceRendition s (entry_of by event) r rendition_state

-- the state after a fitting New event, made by replacing a rendition state, is a state
valid : (s : State) (by : ℕ) (event : Event) (r : ℕ) (rendition_state : RenditionState) → IsState s → IsFitting s event → outcome_of s event ≡ New → with_rendition s (entry_of by event) r rendition_state ≡ state_with_entry s by event → IsState (with_rendition s (entry_of by event) r rendition_state)
valid s by event r rendition_state state fits new is = subst (λ (x : State). IsState x) (sym is) (advanced_state s by event state fits new)

-- a lane is finished if its rendition is
lane_finished : (o : Option RecordingData) (finished : Bool) → (lane_from o finished).finished ≡ finished
lane_finished None finished = refl
lane_finished (Some rec) finished = refl

-- the lane of a rendition without a recording has no init section
lane_begun : (o : Option RecordingData) (finished : Bool) → o ≡ None → (lane_from o finished).init ≡ None
lane_begun None finished e = refl
lane_begun (Some rec) finished e = cc

-- a rendition that hasn't begun isn't finished
not_finished : (s : State) (r : ℕ) (old : RenditionState) → IsState s → HasRenditionState s r old → old.recording ≡ None → old.finished ≡ false
not_finished s r old state at first =
    sym (lane_finished old.recording old.finished)
    ∙ ((state.fits r (lane_of old) (held_of old) at.lane at.held).none (lane_begun old.recording old.finished first)).3

-- a rendition state with a valid recording is valid
good_side : (next : RecordingData) (finished : Bool) → IsRecorded next → HasValidRecording (record { recording = Some next; finished = finished })
good_side next finished good = λ rec e. let is : next ≡ rec = cc in subst (λ (x : RecordingData). IsRecorded x) is good

-- a fitting New event may replace the state of an unfinished rendition, if the result is the state after the event
may_take : (s : State) (by : ℕ) (event : Event) (r : ℕ) (old rendition_state : RenditionState) → IsState s → IsFitting s event → outcome_of s event ≡ New → with_rendition s (entry_of by event) r rendition_state ≡ state_with_entry s by event → (channel_after (logged_event event) (channel s)).lanes ≡ slice_set (channel s).lanes r (lane_of rendition_state) → (channel_after (logged_event event) (channel s)).removed ≡ (channel s).removed → HasRenditionState s r old → old.finished ≡ false → HasValidRecording rendition_state → MayReplaceRendition s (entry_of by event) r rendition_state
may_take s by event r old rendition_state state fits new is lanes removed at open_ended good = record {
  valid = valid s by event r rendition_state state fits new is;
  lanes = lanes;
  removed = removed;
  continues = subst (λ (x : State). Extends s x) (sym is) (advanced_continues s by event state fits new);
  live = record {
    rendition = r;
    within = omega (arith, sources_count s, slice_get_within (channel s).lanes r (lane_of old) at.lane);
    not_ended = (source_of s r (lane_of old) at.lane).finished ∙ lane_finished old.recording old.finished ∙ open_ended;
  };
  good = good;
}

-- the lane of rendition r, by its recording, if it has one
lane_is : (s : State) (r : ℕ) (rendition_state : RenditionState) (o : Option RecordingData) → HasRenditionState s r rendition_state → rendition_state.recording ≡ o → lane (channel s) r ≡ lane_from o rendition_state.finished
lane_is s r rendition_state o at begun =
    at_or (channel s).lanes r no_lane (lane_of rendition_state) at.lane ∙ ap (λ (x : Option RecordingData). lane_from x rendition_state.finished) begun

-- the kept bytes of rendition r, by its recording, if it has one
held_is : (s : State) (r : ℕ) (rendition_state : RenditionState) (o : Option RecordingData) → HasRenditionState s r rendition_state → rendition_state.recording ≡ o → held_bytes s r ≡ held_from o
held_is s r rendition_state o at begun = at_or s.bytes r no_bytes (held_of rendition_state) at.held ∙ ap held_from begun

-- the lane at index r of the channel, by the rendition's recording, if it has one
lane_at : (s : State) (r : ℕ) (rendition_state : RenditionState) (o : Option RecordingData) → HasRenditionState s r rendition_state → rendition_state.recording ≡ o → slice_get (channel s).lanes r ≡ Some (lane_from o rendition_state.finished)
lane_at s r rendition_state o at begun = at.lane ∙ ap (λ (x : Option RecordingData). Some (lane_from x rendition_state.finished)) begun

-- a New event is answered by the new state if making that state succeeds, otherwise by a refusal for memory
pub steps_by : {E : Type 0} (s target : State) (by : ℕ) (event : Event) (next : Result (Arc Snapshot Global) E) (answer : Result Stepped Refusal) → outcome_of s event ≡ New → target ≡ state_with_entry s by event →
    IfOk next (λ n. n.value ≡ target) → IfOk next (λ n. answer ≡ Ok (stepped.New n)) → IfErr next (λ _. answer ≡ Err Memory) → Steps s by event answer
steps_by s target by event (Ok n) answer new is made progress refused = subst (λ (x : Result Stepped Refusal). Steps s by event x) (sym progress) (new, made ∙ is)
steps_by s target by event (Err e) answer new is made progress refused = subst (λ (x : Result Stepped Refusal). Steps s by event x) (sym refused) (new, refl)

-- the same for an event by which a rendition state is replaced
pub steps_goes : {E : Type 0} {s : State} {by : ℕ} {event : Event} {r : ℕ} {rendition_state : RenditionState} (entry : Entry) (next : Result (Arc Snapshot Global) E) (answer : Result Stepped Refusal) → entry ≡ entry_of by event → Goes s by event r rendition_state →
    IfOk next (λ n. n.value ≡ with_rendition s entry r rendition_state) → IfOk next (λ n. answer ≡ Ok (stepped.New n)) → IfErr next (λ _. answer ≡ Err Memory) → Steps s by event answer
steps_goes {s = s} {by = by} {event = event} {r = r} {rendition_state = rendition_state} entry next answer is goes made progress refused =
    steps_by s (with_rendition s entry r rendition_state) by event next answer goes.new (ap (λ (e : Entry). with_rendition s e r rendition_state) is ∙ goes.is) made progress refused

-- a rendition state that equals the one of the move may be put in its place
pub goes_as : {s : State} {by : ℕ} {event : Event} {r : ℕ} {rendition_state made : RenditionState} → rendition_state ≡ made → Goes s by event r made → Goes s by event r rendition_state
goes_as {s = s} {by = by} {event = event} {r = r} is goes = subst (λ (x : RenditionState). Goes s by event r x) (sym is) goes

-- rendition r may be replaced, with any entry that equals the event's
pub take_as : {s : State} {by : ℕ} {event : Event} {r : ℕ} {rendition_state : RenditionState} (entry : Entry) → entry ≡ entry_of by event → Goes s by event r rendition_state → MayReplaceRendition s entry r rendition_state
take_as {s = s} {r = r} {rendition_state = rendition_state} entry is goes = subst (λ (e : Entry). MayReplaceRendition s e r rendition_state) (sym is) goes.take

-- a log that isn't full has room for one more entry
pub room_of : (s : State) (full : Bool) → full ≡ nat_le 4194304 (length s.log) → full ≡ false → length s.log < 4194304
room_of s full is isnt = leb-false 4194304 (length s.log) (sym is ∙ isnt)

-- the number of a rendition state is below the number of renditions
pub within : (s : State) (r : ℕ) (rendition_state : RenditionState) → HasRenditionState s r rendition_state → r < length s.bytes
within s r rendition_state at = slice_get_within s.bytes r (held_of rendition_state) at.held

-- a recording has at most as many units as the log has entries
pub units_few : (s : State) (r : ℕ) (rendition_state : RenditionState) (rec : RecordingData) → IsState s → HasRenditionState s r rendition_state → rendition_state.recording ≡ Some rec → length rec.facts ≤ length s.log
units_few s r rendition_state rec state at begun =
    units_are_logged s.config s.log state.legal r (lane_from (Some rec) rendition_state.finished) (lane_at s r rendition_state (Some rec) at begun)

-- the outcome of a Begin, by the rendition's recording, if it has one
begin_at : (s : State) (r : ℕ) (old : RenditionState) (o : Option RecordingData) (bytes : List ℕ) → HasRenditionState s r old → old.recording ≡ o → begin (slice_get (channel s).lanes r) (held_bytes s r) bytes (length s.log) ≡ begin_with_init (lane_from o old.finished).init (held_from o).head bytes (length s.log)
begin_at s r old o bytes at begun =
    ap (λ (l : Option Lane). begin l (held_bytes s r) bytes (length s.log)) (lane_at s r old o at begun)
    ∙ ap (λ (h : HeldBytes). begin_with_init (lane_from o old.finished).init h.head bytes (length s.log)) (held_is s r old o at begun)

-- a Begin is refused for an unknown rendition
pub begin_unknown : (s : State) (r : ℕ) (bytes : List ℕ) → slice_get (channel s).lanes r ≡ None → begin (slice_get (channel s).lanes r) (held_bytes s r) bytes (length s.log) ≡ Refused UnknownRendition
begin_unknown s r bytes none = ap (λ (l : Option Lane). begin l (held_bytes s r) bytes (length s.log)) none

-- a Begin with the bytes of the rendition's init section is a repeat
pub begin_again : (s : State) (r : ℕ) (old : RenditionState) (rec : RecordingData) (bytes : List ℕ) → HasRenditionState s r old → old.recording ≡ Some rec → bytes_eq rec.head bytes ≡ true → begin (slice_get (channel s).lanes r) (held_bytes s r) bytes (length s.log) ≡ Repeated
begin_again s r old rec bytes at begun same = begin_at s r old (Some rec) bytes at begun ∙ rw same refl

-- a Begin with other bytes than those of the rendition's init section is refused
pub begin_changed : (s : State) (r : ℕ) (old : RenditionState) (rec : RecordingData) (bytes : List ℕ) → HasRenditionState s r old → old.recording ≡ Some rec → bytes_eq rec.head bytes ≡ false → begin (slice_get (channel s).lanes r) (held_bytes s r) bytes (length s.log) ≡ Refused InitChanged
begin_changed s r old rec bytes at begun other = begin_at s r old (Some rec) bytes at begun ∙ rw other refl

-- a Begin in a rendition that hasn't begun is refused if the log is full
pub begin_full : (s : State) (r : ℕ) (old : RenditionState) (bytes : List ℕ) → HasRenditionState s r old → old.recording ≡ None → nat_le log_limit (length s.log) ≡ true → begin (slice_get (channel s).lanes r) (held_bytes s r) bytes (length s.log) ≡ Refused LedgerFull
begin_full s r old bytes at first full = begin_at s r old None bytes at first ∙ rw full refl

-- a fitting Begin in a rendition without a recording, with room in the log, is New and leads to an empty recording
begin_goes_by : (s : State) (by : ℕ) (r : ℕ) (old : RenditionState) (init : InitData) (bytes : List ℕ) → IsState s → HasRenditionState s r old → old.recording ≡ None → length s.log < 4194304 → IsInit bytes init → IsRecorded (empty_recording init bytes) → Goes s by (Begin r init bytes) r (record { recording = Some (empty_recording init bytes); finished = old.finished })
begin_goes_by s by r old init bytes state at first room read good =
    let at_lane = lane_at s r old None at first in
    let lane_was = lane_is s r old None at first in
    let full : nat_le 4194304 (length s.log) ≡ false = lt-leb 4194304 (length s.log) room in
    let new : outcome_of s (Begin r init bytes) ≡ New = rw (at_lane, full) refl in
    record {
      new = new;
      is = refl;
      take = may_take s by (Begin r init bytes) r old (record { recording = Some (empty_recording init bytes); finished = old.finished }) state read new refl
          (ap (λ (l : Lane). slice_set (channel s).lanes r (with_begin init (length bytes) l)) lane_was) refl at
          (not_finished s r old state at first) (good_side (empty_recording init bytes) old.finished good);
    }

-- if the tests of a Begin find it new, the rendition hasn't begun and the log isn't full
pub new_begins : (s : State) (r : ℕ) (bytes : List ℕ) (new : Bool) → BeginMeets s r bytes (Ok new) → new ≡ true → MayBegin s r
new_begins s r bytes true may is = may
new_begins s r bytes false repeated is = absurd (cc)

-- a Begin is New in a rendition that hasn't begun, if the log isn't full
pub begin_new : (s : State) (r : ℕ) (init : InitData) (bytes : List ℕ) → MayBegin s r → outcome_of s (Begin r init bytes) ≡ New
begin_new s r init bytes may = begin_at s r may.old None bytes may.at may.first ∙ rw (lt-leb log_limit (length s.log) may.room) refl

-- the number of a rendition that may begin is below the number of renditions
pub begin_within : (s : State) (r : ℕ) → MayBegin s r → r < length s.bytes
begin_within s r may = within s r may.old may.at

-- a fitting Begin that passes the tests leads to an empty recording with its init section
pub begin_goes : (s : State) (by : ℕ) (r : ℕ) (init : InitData) (bytes : List ℕ) (next : RecordingData) → IsState s → MayBegin s r → IsInit bytes init → next ≡ empty_recording init bytes → IsRecorded next → Goes s by (Begin r init bytes) r (record { recording = Some next; finished = false })
begin_goes s by r init bytes next state may read is good =
    let whole : IsRecorded (empty_recording init bytes) = subst (λ (x : RecordingData). IsRecorded x) is good in
    subst (λ (x : RecordingData). Goes s by (Begin r init bytes) r (record { recording = Some x; finished = false })) (sym is)
    (subst (λ (b : Bool). Goes s by (Begin r init bytes) r (record { recording = Some (empty_recording init bytes); finished = b })) (not_finished s r may.old state may.at may.first)
    (begin_goes_by s by r may.old init bytes state may.at may.first may.room read whole))

-- an Accept is refused for an unknown rendition
pub accept_unknown : (s : State) (r : ℕ) (f : Facts) (bytes : List ℕ) → slice_get (channel s).lanes r ≡ None → outcome_of s (Accept r f bytes) ≡ Refused UnknownRendition
accept_unknown s r f bytes none = ap (λ (l : Option Lane). accept l (held_bytes s r) f bytes (length s.log)) none

-- an Accept is refused if its rendition has no init section
pub accept_unbegun : (s : State) (r : ℕ) (old : RenditionState) (f : Facts) (bytes : List ℕ) → HasRenditionState s r old → old.recording ≡ None → outcome_of s (Accept r f bytes) ≡ Refused NoInit
accept_unbegun s r old f bytes at none = ap (λ (l : Option Lane). accept l (held_bytes s r) f bytes (length s.log)) (lane_at s r old None at none)

-- the outcome of an Accept in a rendition that has begun, by the kept unit with the same start, if there is one
accept_chain : (s : State) (r : ℕ) (old : RenditionState) (rec : RecordingData) (f : Facts) (bytes : List ℕ) (duplicate : Option (List ℕ)) → HasRenditionState s r old → old.recording ≡ Some rec → duplicate_of rec f.start ≡ duplicate → outcome_of s (Accept r f bytes) ≡ accept_with_duplicate duplicate (lane_from (Some rec) old.finished) f bytes (length s.log)
accept_chain s r old rec f bytes duplicate at begun beside =
    let at_lane = lane_at s r old (Some rec) at begun in
    let held_was = held_is s r old (Some rec) at begun in
    ap (λ (l : Option Lane). accept l (held_bytes s r) f bytes (length s.log)) at_lane
    ∙ ap (λ (h : HeldBytes). accept (Some (lane_from (Some rec) old.finished)) h f bytes (length s.log)) held_was
    ∙ ap (λ (o : Option (List ℕ)). accept_with_duplicate o (lane_from (Some rec) old.finished) f bytes (length s.log)) beside

-- a unit with the start and the bytes of a kept one is a repeat
pub accept_again : (s : State) (r : ℕ) (old : RenditionState) (rec : RecordingData) (f : Facts) (bytes duplicate : List ℕ) → HasRenditionState s r old → old.recording ≡ Some rec → duplicate_of rec f.start ≡ Some duplicate → bytes_eq duplicate bytes ≡ true → outcome_of s (Accept r f bytes) ≡ Repeated
accept_again s r old rec f bytes duplicate at begun beside same = accept_chain s r old rec f bytes (Some duplicate) at begun beside ∙ rw same refl

-- a unit with the start of a kept one and other bytes is refused as an overlap
pub accept_other : (s : State) (r : ℕ) (old : RenditionState) (rec : RecordingData) (f : Facts) (bytes duplicate : List ℕ) → HasRenditionState s r old → old.recording ≡ Some rec → duplicate_of rec f.start ≡ Some duplicate → bytes_eq duplicate bytes ≡ false → outcome_of s (Accept r f bytes) ≡ Refused Overlap
accept_other s r old rec f bytes duplicate at begun beside other = accept_chain s r old rec f bytes (Some duplicate) at begun beside ∙ rw other refl

-- a unit that starts before the end of the last one, and at no kept unit's start, is refused as an overlap
pub accept_before : (s : State) (r : ℕ) (old : RenditionState) (rec : RecordingData) (f : Facts) (bytes : List ℕ) → HasRenditionState s r old → old.recording ≡ Some rec → duplicate_of rec f.start ≡ None → f.start < last_end rec.facts → outcome_of s (Accept r f bytes) ≡ Refused Overlap
accept_before s r old rec f bytes at begun apart before =
    accept_chain s r old rec f bytes None at begun apart ∙ rw (lt-ltb f.start (last_end rec.facts) before) refl

-- a unit after the last one is refused if the rendition is finished
pub accept_finished : (s : State) (r : ℕ) (old : RenditionState) (rec : RecordingData) (f : Facts) (bytes : List ℕ) → HasRenditionState s r old → old.recording ≡ Some rec → duplicate_of rec f.start ≡ None → last_end rec.facts ≤ f.start → old.finished ≡ true → outcome_of s (Accept r f bytes) ≡ Refused Finished
accept_finished s r old rec f bytes at begun apart later finished =
    accept_chain s r old rec f bytes None at begun apart ∙ rw (le-ltb f.start (last_end rec.facts) later, finished) refl

-- a unit after the last one is refused if the rendition isn't finished and the log is full
pub accept_full : (s : State) (r : ℕ) (old : RenditionState) (rec : RecordingData) (f : Facts) (bytes : List ℕ) → HasRenditionState s r old → old.recording ≡ Some rec → duplicate_of rec f.start ≡ None → last_end rec.facts ≤ f.start → old.finished ≡ false → nat_le 4194304 (length s.log) ≡ true → outcome_of s (Accept r f bytes) ≡ Refused LedgerFull
accept_full s r old rec f bytes at begun apart later open_ended full =
    accept_chain s r old rec f bytes None at begun apart ∙ rw (le-ltb f.start (last_end rec.facts) later, open_ended, full) refl

-- a unit that passes all tests is New
accept_new : (s : State) (r : ℕ) (old : RenditionState) (rec : RecordingData) (f : Facts) (bytes : List ℕ) → HasRenditionState s r old → old.recording ≡ Some rec → duplicate_of rec f.start ≡ None → last_end rec.facts ≤ f.start → old.finished ≡ false → length s.log < 4194304 → total_of rec + f.len ≤ 2 ^ 40 → outcome_of s (Accept r f bytes) ≡ New
accept_new s r old rec f bytes at begun apart later open_ended room small =
    accept_chain s r old rec f bytes None at begun apart
    ∙ rw (le-ltb f.start (last_end rec.facts) later, open_ended, lt-leb 4194304 (length s.log) room, le-ltb (2 ^ 40) (total_of rec + f.len) small) refl

-- a unit that passes the tests before is refused if the recording has no room for its bytes
pub accept_large : (s : State) (r : ℕ) (rec : RecordingData) (f : Facts) (bytes : List ℕ) → MayAccept s r f rec → 2 ^ 40 < total_of rec + f.len → outcome_of s (Accept r f bytes) ≡ Refused RecordingFull
accept_large s r rec f bytes may large =
    accept_chain s r may.old rec f bytes None may.at may.begun may.apart
    ∙ rw (le-ltb f.start (last_end rec.facts) may.later, may.unfinished, lt-leb log_limit (length s.log) may.room, lt-ltb (2 ^ 40) (total_of rec + f.len) large) refl

-- a unit that passes the tests before is New if the recording has room for its bytes
pub accept_small : (s : State) (r : ℕ) (rec : RecordingData) (f : Facts) (bytes : List ℕ) → MayAccept s r f rec → total_of rec + f.len ≤ 2 ^ 40 → outcome_of s (Accept r f bytes) ≡ New
accept_small s r rec f bytes may small =
    accept_new s r may.old rec f bytes may.at may.begun may.apart may.later may.unfinished may.room small

-- a fitting New Accept leads to the recording with the unit appended
accept_goes : (s : State) (by : ℕ) (r : ℕ) (old : RenditionState) (rec next : RecordingData) (f : Facts) (bytes : List ℕ) → IsState s → HasRenditionState s r old → old.recording ≡ Some rec → IsFitting s (Accept r f bytes) → outcome_of s (Accept r f bytes) ≡ New → next ≡ with_unit rec f bytes → old.finished ≡ false → IsRecorded next → Goes s by (Accept r f bytes) r (record { recording = Some next; finished = old.finished })
accept_goes s by r old rec next f bytes state at begun fits new next_is open_ended good =
    let lane_was = lane_is s r old (Some rec) at begun in
    let held_was = held_is s r old (Some rec) at begun in
    let held_now : held_from (Some next) ≡ push_unit_bytes (held_bytes s r) bytes = rw (next_is, held_was) refl in
    let bytes_are : slice_set s.bytes r (held_from (Some next)) ≡ slice_set s.bytes r (push_unit_bytes (held_bytes s r) bytes) =
    ap (λ (h : HeldBytes). slice_set s.bytes r h) held_now in
    let is : with_rendition s (entry_of by (Accept r f bytes)) r (record { recording = Some next; finished = old.finished }) ≡ state_with_entry s by (Accept r f bytes) =
    λ k. record { config = s.config; log = s.log ++ entry_of by (Accept r f bytes) ∷ []; bytes = bytes_are k } in
    let lane_now : with_facts f (lane (channel s) r) ≡ lane_from (Some next) old.finished = rw (next_is, lane_was) refl in
    record {
      new = new;
      is = is;
      take = may_take s by (Accept r f bytes) r old (record { recording = Some next; finished = old.finished }) state fits new is
          (ap (λ (l : Lane). slice_set (channel s).lanes r l) lane_now) refl at open_ended (good_side next old.finished good);
    }

-- a recording that may take a unit has at most as many units as the log has entries
pub accepts_units : (s : State) (r : ℕ) (rec : RecordingData) (f : Facts) → IsState s → MayAccept s r f rec → length rec.facts ≤ length s.log
accepts_units s r rec f state may = units_few s r may.old rec state may.at may.begun

-- the number of a rendition that may take a unit is below the number of renditions
pub accepts_within : (s : State) (r : ℕ) (rec : RecordingData) (f : Facts) → MayAccept s r f rec → r < length s.bytes
accepts_within s r rec f may = within s r may.old may.at

-- a fitting Accept that passes the tests, and for whose bytes there is room, leads to the recording with the unit appended
pub accepts_goes : (s : State) (by : ℕ) (r : ℕ) (rec next : RecordingData) (f : Facts) (bytes : List ℕ) → IsState s → MayAccept s r f rec → IsFitting s (Accept r f bytes) → total_of rec + f.len ≤ 2 ^ 40 → next ≡ with_unit rec f bytes → IsRecorded next → Goes s by (Accept r f bytes) r (record { recording = Some next; finished = false })
accepts_goes s by r rec next f bytes state may fits small next_is good =
    subst (λ (b : Bool). Goes s by (Accept r f bytes) r (record { recording = Some next; finished = b })) may.unfinished
    (accept_goes s by r may.old rec next f bytes state may.at may.begun fits (accept_small s r rec f bytes may small) next_is may.unfinished good)

-- the outcome of a Finish, by the rendition's recording, if it has one
finish_at : (s : State) (r : ℕ) (old : RenditionState) (o : Option RecordingData) → HasRenditionState s r old → old.recording ≡ o → outcome_of s (Finish r) ≡ finish_with_init (lane_from o old.finished).init (lane_from o old.finished).finished (length s.log)
finish_at s r old o at begun = ap (λ (l : Option Lane). finish l (length s.log)) (lane_at s r old o at begun)

-- a Finish is refused for an unknown rendition
pub finish_unknown : (s : State) (r : ℕ) → slice_get (channel s).lanes r ≡ None → outcome_of s (Finish r) ≡ Refused UnknownRendition
finish_unknown s r none = ap (λ (l : Option Lane). finish l (length s.log)) none

-- a Finish is refused if its rendition has no init section
pub finish_unbegun : (s : State) (r : ℕ) (old : RenditionState) → HasRenditionState s r old → old.recording ≡ None → outcome_of s (Finish r) ≡ Refused NoInit
finish_unbegun s r old at none = finish_at s r old None at none

-- a Finish in a rendition that is finished is a repeat
pub finish_again : (s : State) (r : ℕ) (old : RenditionState) (rec : RecordingData) → HasRenditionState s r old → old.recording ≡ Some rec → old.finished ≡ true → outcome_of s (Finish r) ≡ Repeated
finish_again s r old rec at begun finished = finish_at s r old (Some rec) at begun ∙ rw finished refl

-- a Finish in a rendition that has begun and isn't finished is refused if the log is full
pub finish_full : (s : State) (r : ℕ) (old : RenditionState) (rec : RecordingData) → HasRenditionState s r old → old.recording ≡ Some rec → old.finished ≡ false → nat_le log_limit (length s.log) ≡ true → outcome_of s (Finish r) ≡ Refused LedgerFull
finish_full s r old rec at begun unfinished full = finish_at s r old (Some rec) at begun ∙ rw (unfinished, full) refl

-- a Finish in a rendition that has begun and isn't finished is New if the log isn't full
pub finish_new : (s : State) (r : ℕ) (old : RenditionState) (rec : RecordingData) → HasRenditionState s r old → old.recording ≡ Some rec → old.finished ≡ false → length s.log < log_limit → outcome_of s (Finish r) ≡ New
finish_new s r old rec at begun unfinished room = finish_at s r old (Some rec) at begun ∙ rw (unfinished, lt-leb log_limit (length s.log) room) refl

-- a Finish of a rendition that has begun and isn't finished, with room in the log, is New and leads to its recording, finished
pub finish_goes : (s : State) (by : ℕ) (r : ℕ) (old : RenditionState) (rec next : RecordingData) → IsState s → HasRenditionState s r old → old.recording ≡ Some rec → old.finished ≡ false → length s.log < 4194304 → next ≡ rec → IsRecorded next → Goes s by (Finish r) r (record { recording = Some next; finished = true })
finish_goes s by r old rec next state at begun open_ended room next_is good =
    let at_lane = lane_at s r old (Some rec) at begun in
    let lane_was = lane_is s r old (Some rec) at begun in
    let held_at : slice_get s.bytes r ≡ Some (held_from (Some next)) =
    at.held ∙ ap (λ (o : Option RecordingData). Some (held_from o)) (begun ∙ ap (λ (x : RecordingData). Some x) (sym next_is)) in
    let full : nat_le 4194304 (length s.log) ≡ false = lt-leb 4194304 (length s.log) room in
    let new : outcome_of s (Finish r) ≡ New = rw (at_lane, open_ended, full) refl in
    let bytes_are : slice_set s.bytes r (held_from (Some next)) ≡ s.bytes = set_same s.bytes r (held_from (Some next)) held_at in
    let is : with_rendition s (entry_of by (Finish r)) r (record { recording = Some next; finished = true }) ≡ state_with_entry s by (Finish r) =
    λ k. record { config = s.config; log = s.log ++ entry_of by (Finish r) ∷ []; bytes = bytes_are k } in
    let lane_now : with_finish (lane (channel s) r) ≡ lane_from (Some next) true = rw (next_is, lane_was) refl in
    record {
      new = new;
      is = is;
      take = may_take s by (Finish r) r old (record { recording = Some next; finished = true }) state tt new is
          (ap (λ (l : Lane). slice_set (channel s).lanes r l) lane_now) refl at open_ended (good_side next true good);
    }

-- a Slide that the live line allows is New if the log isn't full
pub slide_new : (s : State) (count : ℕ) (u : Unit {0}) → may_slide (line s) count ≡ Ok u → length s.log < log_limit → outcome_of s (Slide count) ≡ New
slide_new s count u may room =
    ap (λ (m : Result (Unit {0}) LineFault). slide m (length s.log)) may ∙ rw (lt-leb log_limit (length s.log) room) refl

-- the Trim is New, this state of rendition r yields the state after the Trim, and only the kept units of r change
pub record Trims (s : State) (by r floor : ℕ) (rendition_state : RenditionState) : Type 0 where
  pub new : outcome_of s (Trim r floor) ≡ New
  pub is : with_rendition s (entry_of by (Trim r floor)) r rendition_state ≡ state_with_entry s by (Trim r floor)
  pub trim : MayTrim s (entry_of by (Trim r floor)) r rendition_state

-- a floor to which a rendition may be trimmed is at most the number of its units
pub trim_within : (s : State) (r floor : ℕ) (old : RenditionState) (o : Option RecordingData) → HasRenditionState s r old → old.recording ≡ o → (lane_of old).floor < floor → floor ≤ trim_limit (front_of (line s)) r → floor ≤ length (lane_from o old.finished).facts
trim_within s r floor old o at begun rises far =
    omega (arith, far, front_within s r (lane_of old) at.lane, ap (λ (x : Option RecordingData). length (lane_from x old.finished).facts) begun)

-- in a rendition that hasn't begun no floor may rise
pub trim_begun : (s : State) (r floor : ℕ) (old : RenditionState) → HasRenditionState s r old → old.recording ≡ None → (lane_of old).floor < floor → floor ≤ trim_limit (front_of (line s)) r → ⊥
trim_begun s r floor old at none rises far =
    let within = trim_within s r floor old None at none rises far in omega (arith, within, rises)

-- a Trim is refused for an unknown rendition
pub trim_unknown : (s : State) (r floor : ℕ) → slice_get (channel s).lanes r ≡ None → outcome_of s (Trim r floor) ≡ Refused UnknownRendition
trim_unknown s r floor none = ap (λ (l : Option Lane). trim l (trim_limit (front_of (line s)) r) floor (length s.log)) none

-- a Trim that doesn't raise the floor is a repeat
pub trim_again : (s : State) (r floor : ℕ) (old : RenditionState) → HasRenditionState s r old → floor ≤ (lane_of old).floor → outcome_of s (Trim r floor) ≡ Repeated
trim_again s r floor old at below = let at_lane = at.lane in rw (at_lane, le-leb floor (lane_of old).floor below) refl

-- a Trim to a floor above the limit is refused
pub trim_far : (s : State) (r floor : ℕ) (old : RenditionState) → HasRenditionState s r old → (lane_of old).floor < floor → trim_limit (front_of (line s)) r < floor → outcome_of s (Trim r floor) ≡ Refused TrimTooFar
trim_far s r floor old at rises far =
    let at_lane = at.lane in rw (at_lane, lt-leb floor (lane_of old).floor rises, lt-ltb (trim_limit (front_of (line s)) r) floor far) refl

-- a Trim to a higher floor, up to the limit, is refused if the log is full
pub trim_full : (s : State) (r floor : ℕ) (old : RenditionState) → HasRenditionState s r old → (lane_of old).floor < floor → floor ≤ trim_limit (front_of (line s)) r → nat_le log_limit (length s.log) ≡ true → outcome_of s (Trim r floor) ≡ Refused LedgerFull
trim_full s r floor old at rises far full =
    let at_lane = at.lane in rw (at_lane, lt-leb floor (lane_of old).floor rises, le-ltb (trim_limit (front_of (line s)) r) floor far, full) refl

-- a Trim to a higher floor, up to the limit, is New if the log isn't full
pub trim_new : (s : State) (r floor : ℕ) (old : RenditionState) → HasRenditionState s r old → (lane_of old).floor < floor → floor ≤ trim_limit (front_of (line s)) r → length s.log < log_limit → outcome_of s (Trim r floor) ≡ New
trim_new s r floor old at rises far room =
    let at_lane = at.lane in
    let full : nat_le log_limit (length s.log) ≡ false = lt-leb log_limit (length s.log) room in
    rw (at_lane, lt-leb floor (lane_of old).floor rises, le-ltb (trim_limit (front_of (line s)) r) floor far, full) refl

-- a Trim to a higher floor, up to the limit, with room in the log, is New and leads to the recording without the bytes below it
pub trim_goes : (s : State) (by r floor : ℕ) (old : RenditionState) (rec next : RecordingData) → IsState s → HasRenditionState s r old → old.recording ≡ Some rec → (lane_of old).floor < floor → floor ≤ trim_limit (front_of (line s)) r → length s.log < log_limit → next ≡ trimmed_recording rec floor → IsRecorded next → Trims s by r floor (record { recording = Some next; finished = old.finished })
trim_goes s by r floor old rec next state at begun rises far room next_is good =
    let at_lane = at.lane in
    let rendition_state : RenditionState = record { recording = Some next; finished = old.finished } in
    let lane_was = lane_is s r old (Some rec) at begun in
    let held_was = held_is s r old (Some rec) at begun in
    let new : outcome_of s (Trim r floor) ≡ New = trim_new s r floor old at rises far room in
    let held_now : held_from (Some next) ≡ drop_unit_bytes (held_bytes s r) (floor - (lane (channel s) r).floor) = rw (next_is, held_was, lane_was) refl in
    let bytes_are : slice_set s.bytes r (held_from (Some next)) ≡ slice_set s.bytes r (drop_unit_bytes (held_bytes s r) (floor - (lane (channel s) r).floor)) =
    ap (λ (h : HeldBytes). slice_set s.bytes r h) held_now in
    let is : with_rendition s (entry_of by (Trim r floor)) r rendition_state ≡ state_with_entry s by (Trim r floor) =
    λ k. record { config = s.config; log = s.log ++ entry_of by (Trim r floor) ∷ []; bytes = bytes_are k } in
    let lane_now : with_floor floor (lane (channel s) r) ≡ lane_from (Some next) old.finished = rw (next_is, lane_was) refl in
    record {
      new = new;
      is = is;
      trim = record {
        valid = valid s by (Trim r floor) r rendition_state state tt new is;
        lanes = ap (λ (l : Lane). slice_set (channel s).lanes r l) lane_now;
        removed = refl;
        same = ap sources is ∙ sources_trim s by r floor (lane_of old) at_lane;
        good = good_side next old.finished good;
      };
    }

-- a rendition state that equals the one of the Trim may be put in its place
pub trims_as : {s : State} {by r floor : ℕ} {rendition_state made : RenditionState} → rendition_state ≡ made → Trims s by r floor made → Trims s by r floor rendition_state
trims_as {s = s} {by = by} {r = r} {floor = floor} is trims = subst (λ (x : RenditionState). Trims s by r floor x) (sym is) trims

-- a New Trim is answered by the new state if making that state succeeds, otherwise by a refusal for memory
pub steps_trims : {E : Type 0} {s : State} {by r floor : ℕ} {rendition_state : RenditionState} (next : Result (Arc Snapshot Global) E) (answer : Result Stepped Refusal) → Trims s by r floor rendition_state →
    IfOk next (λ n. n.value ≡ with_rendition s (entry_of by (Trim r floor)) r rendition_state) → IfOk next (λ n. answer ≡ Ok (stepped.New n)) → IfErr next (λ _. answer ≡ Err Memory) → Steps s by (Trim r floor) answer
steps_trims {s = s} {by = by} {r = r} {floor = floor} {rendition_state = rendition_state} next answer trims made progress refused =
    steps_by s (with_rendition s (entry_of by (Trim r floor)) r rendition_state) by (Trim r floor) next answer trims.new trims.is made progress refused
