-- Why a record is of no new event.
use Rattle.std.proofs.Common.{◌≡◌, ◌∙◌, ℕ, zero, suc, ◌+◌, ◌-◌, ◌<◌, ◌≤◌, Option, Some, None, List, [], ◌∷◌, length, take, get_or, refl, sym, ap, subst, inl, inr, arith}
use Rattle.std.specs.Prelude.{Result, Ok, slice_get, slice_index_or}
use Rattle.std.proofs.lemmas.Option.{slice_get-get_or}
use Rattle.hls_media_laws.specs.InitData.{InitData}
use Rattle.hls_media_laws.specs.Inits.{init_of}
use Rattle.hls_media_laws.specs.IsInitOrUnit.{IsInit, IsUnit, AreBounded}
use Rattle.hls_media_laws.specs.UnitFacts.{facts}
use Rattle.hls_media_laws.specs.declared.facts.Facts.{Facts}
use Rattle.hls_media_laws.proofs.Callers.{units_are_bounded}
use Rattle.hls_record.specs.RecordingData.{RecordingData, total_of}
use Rattle.hls_core_laws.specs.declared.event.Event.{Event}
use Rattle.hls_core_laws.specs.declared.event.Event.TheVariants.{Begin, Accept, Finish, Slide, Trim}
use Rattle.hls_core_laws.specs.declared.refusal.Refusal.{Refusal}
use Rattle.hls_core_laws.specs.declared.refusal.Refusal.TheVariants as refusals
use Rattle.hls_core_laws.specs.Channel.{Lane, no_lane, lane, lane_len}
use Rattle.hls_core_laws.specs.State.{State, channel}
use Rattle.hls_core_laws.specs.IsState.{IsState}
use Rattle.hls_core_laws.specs.Outcome.{Outcome, New, Repeated, Refused, outcome_of, held_bytes}
use Rattle.hls_core_laws.specs.Moves.{IsFitting, IsRefused}
use Rattle.hls_core_laws.proofs.Callers.{may_add, at_or}
use Rattle.hls_core.specs.Getters.{recording_of, recorded_at, recorded_from}
use Rattle.hls_journal_laws.specs.declared.stored_media.StoredMedia.{StoredMedia}
use Rattle.hls_journal.specs.declared.fault.JournalFault.{JournalFault}
use Rattle.hls_journal_laws.specs.Bodies.{IsAside, kind_in, rendition_in, init_section_in, unit_len_in}
use Rattle.hls_journal_laws.specs.Restored.{IsStoredUnit, IsNextUnit, IsRecordOf, Restores}
use Rattle.hls_journal.specs.declared.fault.RecallFault.{RecallFault}
use Rattle.hls_journal.specs.declared.fault.RecallFault.TheVariants.{Memory, Wrong, Missing}
use Rattle.hls_journal.specs.Recalling.{AcceptsNext, IsStoredIn, IsUnitOf}
use Rattle.hls_journal.specs.Faults.{AreMediaInOrder, MissesUnit, IsNotNew, IsOldFault, IsRestoreFault, fault_at, fault_of, IsRecallFault, IsBeginFault, IsNoUnit, IsUnitMissing, IsUnitFault}
use Rattle.hls_journal.proofs.Pieces.{same_stored}
use Rattle.hls_journal.proofs.Units.{trimmed_len, piece_len}
use Rattle.hls_journal.proofs.Recorded.{of_lane, accepted_of, facts_are, total_is}

-- the record of an event has a kind from 1 to 5
other_kind : (floors : ℕ → ℕ) (media : List StoredMedia) (s : State) (body : List ℕ) (event : Event) → IsRecordOf floors media s body event → (1 ≤ kind_in body) × (kind_in body ≤ 5)
other_kind floors media s body (Begin r init bytes) of = (omega (arith, of.0), omega (arith, of.0))
other_kind floors media s body (Accept r f bytes) of = (omega (arith, of.0), omega (arith, of.0))
other_kind floors media s body (Finish r) of = (omega (arith, of.0), omega (arith, of.0))
other_kind floors media s body (Slide count) of = (omega (arith, of.0), omega (arith, of.0))
other_kind floors media s body (Trim r floor) of = (omega (arith, of.0), omega (arith, of.0))

-- the record of an event has at least four bytes
four_bytes : (floors : ℕ → ℕ) (media : List StoredMedia) (s : State) (body : List ℕ) (event : Event) → IsRecordOf floors media s body event → 4 ≤ length body
four_bytes floors media s body (Begin r init bytes) of = of.3
four_bytes floors media s body (Accept r f bytes) of = omega (arith, of.3)
four_bytes floors media s body (Finish r) of = of.2
four_bytes floors media s body (Slide count) of = omega (arith, of.2)
four_bytes floors media s body (Trim r floor) of = omega (arith, of.3)

-- a record of fewer than four bytes is of no new event
pub too_short : (floors : ℕ → ℕ) (media : List StoredMedia) (s : State) (body : List ℕ) → length body < 4 → IsNotNew floors media s body
too_short floors media s body short =
    record {
      none = λ order event of fits new. omega (arith, short, four_bytes floors media s body event of);
      own = λ order misses. omega (arith, short, misses.complete);
    }

-- a record that is of no kind from 1 to 5, or a slide or a trim of another length than 12, is of no event
wrong_kind_of : (floors : ℕ → ℕ) (media : List StoredMedia) (s : State) (body : List ℕ) (event : Event) → (kind_in body ≡ 1 → ⊥) → (kind_in body ≡ 2 → ⊥) → (kind_in body ≡ 3 → ⊥)
    → (kind_in body ≡ 4 → length body ≡ 12 → ⊥) → (kind_in body ≡ 5 → length body ≡ 12 → ⊥) → IsRecordOf floors media s body event → ⊥
wrong_kind_of floors media s body (Begin r init bytes) one two three four five of = one of.0
wrong_kind_of floors media s body (Accept r f bytes) one two three four five of = two of.0
wrong_kind_of floors media s body (Finish r) one two three four five of = three of.0
wrong_kind_of floors media s body (Slide count) one two three four five of = four of.0 of.2
wrong_kind_of floors media s body (Trim r floor) one two three four five of = five of.0 of.3

-- a record of no kind from 1 to 5, or a slide or a trim of another length than 12, is of no new event
pub wrong_kind : (floors : ℕ → ℕ) (media : List StoredMedia) (s : State) (body : List ℕ) → (kind_in body ≡ 1 → ⊥) → (kind_in body ≡ 2 → ⊥) → (kind_in body ≡ 3 → ⊥)
    → (kind_in body ≡ 4 → length body ≡ 12 → ⊥) → (kind_in body ≡ 5 → length body ≡ 12 → ⊥) → IsNotNew floors media s body
wrong_kind floors media s body one two three four five =
    record {
      none = λ order event of fits new. wrong_kind_of floors media s body event one two three four five of;
      own = λ order misses. two misses.kind;
    }

-- a begin's record whose bytes are no init section is of no event that fits
no_init_of : (floors : ℕ → ℕ) (media : List StoredMedia) (s : State) (body : List ℕ) (event : Event) → kind_in body ≡ 1 → ((init : InitData) → IsInit (init_section_in body) init → ⊥)
    → IsRecordOf floors media s body event → IsFitting s event → ⊥
no_init_of floors media s body (Begin r init bytes) kind none of fits = none init (ap (λ b. init_of b) (sym of.2) ∙ fits)
no_init_of floors media s body (Accept r f bytes) kind none of fits = omega (arith, kind, of.0)
no_init_of floors media s body (Finish r) kind none of fits = omega (arith, kind, of.0)
no_init_of floors media s body (Slide count) kind none of fits = omega (arith, kind, of.0)
no_init_of floors media s body (Trim r floor) kind none of fits = omega (arith, kind, of.0)

-- if the bytes of a begin's record are no init section, or an allocation fails, that is the record's fault
pub begin_fault : (floors : ℕ → ℕ) (media : List StoredMedia) (s : State) (body bytes : List ℕ) (fault : RecallFault) → kind_in body ≡ 1 → bytes ≡ init_section_in body → IsBeginFault bytes fault → IsRecallFault floors media s body fault
begin_fault floors media s body bytes Memory kind at is = is
begin_fault floors media s body bytes Wrong kind at is =
    record {
      none = λ order event of fits new. no_init_of floors media s body event kind (λ init read. is init (ap (λ b. init_of b) at ∙ read)) of fits;
      own = λ order misses. omega (arith, kind, misses.kind);
    }
begin_fault floors media s body bytes Missing kind at is = absurd is

-- a lane that has begun has a recording
begun_lane : (s : State) (r : ℕ) (l : Lane) (init : InitData) → slice_get (channel s).lanes r ≡ Some l → l.init ≡ Some init → recording_of s r ≡ None → ⊥
begun_lane s r l init at begun none =
    let is : recorded_from (Some init) l (held_bytes s r) ≡ recording_of s r =
    ap (λ i. recorded_from i l (held_bytes s r)) (sym begun) ∙ ap (λ o. recorded_at o (held_bytes s r)) (sym at) in
    cc

-- a rendition that isn't there has an empty lane
lane_of_none : (lanes : List Lane) (r : ℕ) → slice_get lanes r ≡ None → slice_index_or lanes r no_lane ≡ no_lane
lane_of_none [] r none = refl
lane_of_none (l ∷ ls) zero none = cc
lane_of_none (l ∷ ls) (suc r) none = lane_of_none ls r none

-- a rendition with an init section is there
absent_lane : (s : State) (r : ℕ) (init : InitData) (o : Option Lane) → slice_get (channel s).lanes r ≡ o → (lane (channel s) r).init ≡ Some init → (l : Lane) × (slice_get (channel s).lanes r ≡ Some l) × (l.init ≡ Some init)
absent_lane s r init (Some l) at begun = (l, at, ap (λ (x : Lane). x.init) (sym (at_or (channel s).lanes r no_lane l at)) ∙ begun)
absent_lane s r init None at begun =
    let none : lane (channel s) r ≡ no_lane = lane_of_none (channel s).lanes r at in
    let same : None ≡ Some init = sym (ap (λ (x : Lane). x.init) none) ∙ begun in
    absurd cc

-- the record of a unit in a rendition that hasn't begun is of no event that fits and is new
not_begun_of : (floors : ℕ → ℕ) (media : List StoredMedia) (s : State) (body : List ℕ) (event : Event) → kind_in body ≡ 2 → recording_of s (rendition_in body) ≡ None
    → IsRecordOf floors media s body event → IsFitting s event → outcome_of s event ≡ New → ⊥
not_begun_of floors media s body (Begin r init bytes) kind none of fits new = omega (arith, kind, of.0)
not_begun_of floors media s body (Accept r f bytes) kind none of fits new =
    let a = may_add s (Accept r f bytes) fits new in
    begun_lane s r a.lane a.init a.at a.begun (ap (λ k. recording_of s k) of.1 ∙ none)
not_begun_of floors media s body (Finish r) kind none of fits new = omega (arith, kind, of.0)
not_begun_of floors media s body (Slide count) kind none of fits new = omega (arith, kind, of.0)
not_begun_of floors media s body (Trim r floor) kind none of fits new = omega (arith, kind, of.0)

-- the record of a unit in a rendition that hasn't begun is of no new event
pub not_begun : (floors : ℕ → ℕ) (media : List StoredMedia) (s : State) (body : List ℕ) (r : ℕ) → kind_in body ≡ 2 → r ≡ rendition_in body → recording_of s r ≡ None → IsNotNew floors media s body
not_begun floors media s body r kind at absent =
    let none : recording_of s (rendition_in body) ≡ None = ap (λ k. recording_of s k) (sym at) ∙ absent in
    record {
      none = λ order event of fits new. not_begun_of floors media s body event kind none of fits new;
      own = λ order misses.
          let l = absent_lane s (rendition_in body) misses.init (slice_get (channel s).lanes (rendition_in body)) refl misses.begun in
          begun_lane s (rendition_in body) l.0 misses.init l.1 l.2 none;
    }

-- the bytes of a rendition's next unit in a state are those of its recording's next unit
unit_of_state : (floors : ℕ → ℕ) (media : List StoredMedia) (s : State) (r : ℕ) (rec : RecordingData) (body bytes : List ℕ) → IsState s → recording_of s r ≡ Some rec
    → IsNextUnit floors media s r body bytes → IsUnitOf (floors r) (slice_get media r) rec body bytes
unit_of_state floors media s r rec body bytes state found (inl below) =
    inl (subst (λ (fs : List Facts). length fs < floors r) (sym (facts_are s r rec found)) below.0, below.1)
unit_of_state floors media s r rec body bytes state found (inr stored) =
    inr (
      subst (λ (fs : List Facts). floors r ≤ length fs) (sym (facts_are s r rec found)) stored.0,
      subst (λ (k : ℕ). IsStoredUnit media r k body bytes) (sym (total_is s r rec state found)) stored.1,
    )

-- if a unit fits a state, its facts are read under the recording's init section
read_in : (s : State) (r : ℕ) (rec : RecordingData) (f : Facts) (bytes : List ℕ) → recording_of s r ≡ Some rec → IsFitting s (Accept r f bytes) → IsUnit rec.init bytes f
read_in s r rec f bytes found fits = let of = of_lane s r rec found in fits of.its rec.init of.at of.begun

-- if a record isn't of the recording's next unit, it is of no event that fits
no_unit_of : (floors : ℕ → ℕ) (media : List StoredMedia) (s : State) (rec : RecordingData) (body : List ℕ) (event : Event) → IsState s → kind_in body ≡ 2 → recording_of s (rendition_in body) ≡ Some rec
    → AreMediaInOrder media → IsNoUnit (floors (rendition_in body)) (slice_get media (rendition_in body)) rec body → IsRecordOf floors media s body event → IsFitting s event → ⊥
no_unit_of floors media s rec body (Begin r init bytes) state kind found order none of fits = omega (arith, kind, of.0)
no_unit_of floors media s rec body (Accept r f bytes) state kind found order none of fits =
    let its : recording_of s r ≡ Some rec = ap (λ k. recording_of s k) of.1 ∙ found in
    let unit : IsUnitOf (floors (rendition_in body)) (slice_get media (rendition_in body)) rec body bytes =
    subst (λ (k : ℕ). IsUnitOf (floors k) (slice_get media k) rec body bytes) of.1 (unit_of_state floors media s r rec body bytes state its of.2) in
    none.none (order (rendition_in body)) of.3 bytes f unit (read_in s r rec f bytes its fits)
no_unit_of floors media s rec body (Finish r) state kind found order none of fits = omega (arith, kind, of.0)
no_unit_of floors media s rec body (Slide count) state kind found order none of fits = omega (arith, kind, of.0)
no_unit_of floors media s rec body (Trim r floor) state kind found order none of fits = omega (arith, kind, of.0)

-- if the media have a unit at the end of the recording, they have it at the end of the lane
stored_in_state : (media : List StoredMedia) (s : State) (r : ℕ) (rec : RecordingData) (body bytes : List ℕ) → IsState s → recording_of s r ≡ Some rec → IsStoredIn (slice_get media r) (total_of rec) body bytes
    → IsStoredUnit media r (lane_len (lane (channel s) r)) body bytes
stored_in_state media s r rec body bytes state found stored = subst (λ (k : ℕ). IsStoredUnit media r k body bytes) (total_is s r rec state found) stored

-- if the media have a unit at the end of the lane, they have it at the end of the recording
stored_in_recording : (media : List StoredMedia) (s : State) (r : ℕ) (rec : RecordingData) (body bytes : List ℕ) → IsState s → recording_of s r ≡ Some rec → IsStoredUnit media r (lane_len (lane (channel s) r)) body bytes
    → IsStoredIn (slice_get media r) (total_of rec) body bytes
stored_in_recording media s r rec body bytes state found stored = subst (λ (k : ℕ). IsStoredUnit media r k body bytes) (sym (total_is s r rec state found)) stored

-- why a record leads to no next unit of a recording is why it leads to no next state
pub unit_fault : (floors : ℕ → ℕ) (media : List StoredMedia) (s : State) (rec : RecordingData) (body : List ℕ) (floor : ℕ) (stored : Option StoredMedia) (r : ℕ) (fault : RecallFault) → IsState s → kind_in body ≡ 2
    → recording_of s r ≡ Some rec → r ≡ rendition_in body → floor ≡ floors r → stored ≡ slice_get media r → IsUnitFault floor stored rec body fault → IsRecallFault floors media s body fault
unit_fault floors media s rec body floor stored r Memory state kind found at floor_is stored_is is = is
unit_fault floors media s rec body floor stored r Wrong state kind found at floor_is stored_is is =
    let its : recording_of s (rendition_in body) ≡ Some rec = ap (λ k. recording_of s k) (sym at) ∙ found in
    let none : IsNoUnit (floors (rendition_in body)) (slice_get media (rendition_in body)) rec body =
    subst (λ (k : ℕ). IsNoUnit (floors k) (slice_get media k) rec body) at
    (subst (λ (o : Option StoredMedia). IsNoUnit (floors r) o rec body) stored_is (subst (λ (n : ℕ). IsNoUnit n stored rec body) floor_is is)) in
    record {
      none = λ order event of fits new. no_unit_of floors media s rec body event state kind its order none of fits;
      own = λ order misses.
          none.own (order (rendition_in body)) misses.complete misses.some (subst (λ (fs : List Facts). floors (rendition_in body) ≤ length fs) (sym (facts_are s (rendition_in body) rec its)) misses.kept)
          (λ bytes has. misses.missing order bytes (stored_in_state media s (rendition_in body) rec body bytes state its has));
    }
unit_fault floors media s rec body floor stored r Missing state kind found at floor_is stored_is is =
    let its : recording_of s (rendition_in body) ≡ Some rec = ap (λ k. recording_of s k) (sym at) ∙ found in
    let missing : IsUnitMissing (floors (rendition_in body)) (slice_get media (rendition_in body)) rec body =
    subst (λ (k : ℕ). IsUnitMissing (floors k) (slice_get media k) rec body) at
    (subst (λ (o : Option StoredMedia). IsUnitMissing (floors r) o rec body) stored_is (subst (λ (n : ℕ). IsUnitMissing n stored rec body) floor_is is)) in
    let of = of_lane s (rendition_in body) rec its in
    record {
      kind = kind;
      complete = missing.complete;
      some = missing.some;
      init = rec.init;
      begun = ap (λ (x : Lane). x.init) (at_or (channel s).lanes (rendition_in body) no_lane of.its of.at) ∙ of.begun;
      kept = subst (λ (fs : List Facts). floors (rendition_in body) ≤ length fs) (facts_are s (rendition_in body) rec its) missing.kept;
      missing = λ order bytes has. missing.missing (order (rendition_in body)) bytes (stored_in_recording media s (rendition_in body) rec body bytes state its has);
    }

-- the record of an event doesn't miss its unit
none_misses : (floors : ℕ → ℕ) (media : List StoredMedia) (s : State) (body : List ℕ) (event : Event) → IsRecordOf floors media s body event → AreMediaInOrder media → MissesUnit floors media s body → ⊥
none_misses floors media s body (Begin r init bytes) of order misses = omega (arith, of.0, misses.kind)
none_misses floors media s body (Accept r f bytes) of order misses = elim of.2 [
  | inl below ↦ omega (arith, subst (λ (k : ℕ). length (lane (channel s) k).facts < floors k) of.1 below.0, misses.kept)
  | inr stored ↦ misses.missing order bytes (subst (λ (k : ℕ). IsStoredUnit media k (lane_len (lane (channel s) k)) body bytes) of.1 stored.1)
]
none_misses floors media s body (Finish r) of order misses = omega (arith, of.0, misses.kind)
none_misses floors media s body (Slide count) of order misses = omega (arith, of.0, misses.kind)
none_misses floors media s body (Trim r floor) of order misses = omega (arith, of.0, misses.kind)

-- a record has only one next unit
same_unit : (floors : ℕ → ℕ) (media : List StoredMedia) (s : State) (r : ℕ) (body one other : List ℕ) → AreMediaInOrder media → 0 < unit_len_in body → IsNextUnit floors media s r body one → IsNextUnit floors media s r body other → other ≡ one
same_unit floors media s r body one other order some (inl x) (inl y) = y.1.is ∙ sym x.1.is
same_unit floors media s r body one other order some (inl x) (inr y) = absurd (omega (arith, x.0, y.0))
same_unit floors media s r body one other order some (inr x) (inl y) = absurd (omega (arith, x.0, y.0))
same_unit floors media s r body one other order some (inr x) (inr y) = same_stored (slice_get media r) (lane_len (lane (channel s) r)) body one other (order r) some x.1 y.1

-- a result has only one value
same_ok : {A E : Type 0} → (o : Result A E) (x y : A) → o ≡ Ok x → o ≡ Ok y → y ≡ x
same_ok {A = A} {E = E} o x y one other = let both : Ok y ≡ Ok x = sym other ∙ one in cc

-- the kind of an event's record
kind_of : Event → ℕ
kind_of (Begin r init bytes) = 1
kind_of (Accept r f bytes) = 2
kind_of (Finish r) = 3
kind_of (Slide count) = 4
kind_of (Trim r floor) = 5

-- the record of an event has the event's kind
record_kind : (floors : ℕ → ℕ) (media : List StoredMedia) (s : State) (body : List ℕ) (x : Event) → IsRecordOf floors media s body x → kind_in body ≡ kind_of x
unfolding kind_of
record_kind floors media s body (Begin r init bytes) of = of.0
record_kind floors media s body (Accept r f bytes) of = of.0
record_kind floors media s body (Finish r) of = of.0
record_kind floors media s body (Slide count) of = of.0
record_kind floors media s body (Trim r floor) of = of.0

-- the next unit has the length that its record says
unit_len : (floors : ℕ → ℕ) (media : List StoredMedia) (s : State) (r : ℕ) (body bytes : List ℕ) → IsNextUnit floors media s r body bytes → length bytes ≡ unit_len_in body
unit_len floors media s r body bytes (inl below) = trimmed_len body bytes below.1
unit_len floors media s r body bytes (inr stored) = let piece = stored.1.2 in piece_len piece.0 (lane_len (lane (channel s) r)) (unit_len_in body) bytes piece.2

-- a record whose next unit is a unit says a length above 0
some_unit : (floors : ℕ → ℕ) (media : List StoredMedia) (s : State) (r : ℕ) (init : InitData) (f : Facts) (body bytes : List ℕ) → IsUnit init bytes f → IsNextUnit floors media s r body bytes → 0 < unit_len_in body
some_unit floors media s r init f body bytes read unit =
    let bound : AreBounded f bytes = units_are_bounded init bytes f read in
    omega (arith, bound.some_bytes, bound.len_is, unit_len floors media s r body bytes unit)

-- a record is of at most one event that fits and is new
same_event : (floors : ℕ → ℕ) (media : List StoredMedia) (s : State) (body : List ℕ) (x y : Event) → AreMediaInOrder media
    → IsRecordOf floors media s body x → IsFitting s x → IsRecordOf floors media s body y → IsFitting s y → outcome_of s y ≡ New → y ≡ x
unfolding kind_of
same_event floors media s body (Begin r init bytes) (Begin q other others) order of fits of_y fits_y new =
    let at : q ≡ r = of_y.1 ∙ sym of.1 in
    let bytes_are : others ≡ bytes = of_y.2 ∙ sym of.2 in
    let inits : other ≡ init = same_ok (init_of bytes) init other fits (ap (λ b. init_of b) (sym bytes_are) ∙ fits_y) in
    λ k. Begin (at k) (inits k) (bytes_are k)
same_event floors media s body (Accept r f bytes) (Accept q g others) order of fits of_y fits_y new =
    let at : q ≡ r = of_y.1 ∙ sym of.1 in
    let a = may_add s (Accept q g others) fits_y new in
    let there : slice_get (channel s).lanes r ≡ Some a.lane = ap (λ k. slice_get (channel s).lanes k) (sym at) ∙ a.at in
    let read : facts a.init bytes ≡ Ok f = fits a.lane a.init there a.begun in
    let bytes_are : others ≡ bytes =
    same_unit floors media s r body bytes others order (some_unit floors media s r a.init f body bytes read of.2) of.2 (subst (λ (k : ℕ). IsNextUnit floors media s k body others) at of_y.2) in
    let again : facts a.init others ≡ Ok g = fits_y a.lane a.init a.at a.begun in
    let facts_are_same : g ≡ f = same_ok (facts a.init bytes) f g read (ap (λ b. facts a.init b) (sym bytes_are) ∙ again) in
    λ k. Accept (at k) (facts_are_same k) (bytes_are k)
same_event floors media s body (Finish r) (Finish q) order of fits of_y fits_y new = ap Finish (of_y.1 ∙ sym of.1)
same_event floors media s body (Slide n) (Slide m) order of fits of_y fits_y new = ap Slide (of_y.1 ∙ sym of.1)
same_event floors media s body (Trim r n) (Trim q m) order of fits of_y fits_y new =
    let at : q ≡ r = of_y.1 ∙ sym of.1 in
    let to : m ≡ n = of_y.2 ∙ sym of.2 in
    λ k. Trim (at k) (to k)
same_event floors media s body x y order of fits of_y fits_y new = absurd (omega (arith, record_kind floors media s body x of, record_kind floors media s body y of_y))

-- the outcome of a repeated event isn't that it is new
repeated : (o : Outcome) → o ≡ Repeated → o ≡ New → ⊥
repeated o is new = cc

-- the outcome of a refused event isn't that it is new
refused : (o : Outcome) (r : Refusal) → o ≡ Refused r → o ≡ New → ⊥
refused o r is new = cc

-- an event that is refused leads to no next state, for the fault of its refusal
pub refused_fault : (s : State) (event : Event) (r : Refusal) → IsRefused s event r → IsOldFault s event (fault_of r)
refused_fault s event refusals.Memory is = tt
refused_fault s event refusals.UnknownRendition is = refused (outcome_of s event) refusals.UnknownRendition is
refused_fault s event refusals.NoInit is = refused (outcome_of s event) refusals.NoInit is
refused_fault s event refusals.InitChanged is = refused (outcome_of s event) refusals.InitChanged is
refused_fault s event refusals.Overlap is = refused (outcome_of s event) refusals.Overlap is
refused_fault s event refusals.Finished is = refused (outcome_of s event) refusals.Finished is
refused_fault s event refusals.SlideTooShort is = refused (outcome_of s event) refusals.SlideTooShort is
refused_fault s event refusals.SlideTooMany is = refused (outcome_of s event) refusals.SlideTooMany is
refused_fault s event refusals.TrimTooFar is = refused (outcome_of s event) refusals.TrimTooFar is
refused_fault s event refusals.LedgerFull is = refused (outcome_of s event) refusals.LedgerFull is
refused_fault s event refusals.RecordingFull is = refused (outcome_of s event) refusals.RecordingFull is

-- an event that is repeated leads to no next state
pub repeat_fault : (s : State) (event : Event) → outcome_of s event ≡ Repeated → IsOldFault s event Wrong
repeat_fault s event is = repeated (outcome_of s event) is

-- if the event of a record isn't new, the record is of no new event
pub event_not_new : (floors : ℕ → ℕ) (media : List StoredMedia) (s : State) (body : List ℕ) (event : Event) → IsRecordOf floors media s body event → IsFitting s event → (outcome_of s event ≡ New → ⊥)
    → IsNotNew floors media s body
event_not_new floors media s body event of fits old =
    record {
      none = λ order other of_other fits_other new.
          old (ap (λ (e : Event). outcome_of s e) (sym (same_event floors media s body event other order of fits of_other fits_other new)) ∙ new);
      own = λ order misses. none_misses floors media s body event of order misses;
    }

-- why the event of a record leads to no next state is why the record leads to none
pub old_fault : (floors : ℕ → ℕ) (media : List StoredMedia) (s : State) (body : List ℕ) (event : Event) (fault : RecallFault) → IsRecordOf floors media s body event → IsFitting s event → IsOldFault s event fault
    → IsRecallFault floors media s body fault
old_fault floors media s body event Memory of fits is = is
old_fault floors media s body event Wrong of fits is = event_not_new floors media s body event of fits is
old_fault floors media s body event Missing of fits is = absurd is

-- the next unit of a recording, with its media and floor, is the event of its record
pub accepted_by : (floors : ℕ → ℕ) (media : List StoredMedia) (s : State) (r : ℕ) (rec : RecordingData) (body text : List ℕ) (floor : ℕ) (stored : Option StoredMedia) (event : Event) → IsState s → recording_of s r ≡ Some rec
    → kind_in body ≡ 2 → r ≡ rendition_in body → floor ≡ floors r → stored ≡ slice_get media r → text ≡ body → AcceptsNext floor stored rec r text event → IsRecordOf floors media s body event
accepted_by floors media s r rec body text floor stored event state found kind at floor_is stored_is text_is accepts =
    accepted_of floors media s r rec body event state found kind at
    (subst (λ (t : List ℕ). AcceptsNext (floors r) (slice_get media r) rec r t event) text_is
    (subst (λ (o : Option StoredMedia). AcceptsNext (floors r) o rec r text event) stored_is (subst (λ (n : ℕ). AcceptsNext n stored rec r text event) floor_is accepts)))

-- why a record leads to no next unit, with its media and floor, is why it leads to no next state
pub unit_fault_by : (floors : ℕ → ℕ) (media : List StoredMedia) (s : State) (r : ℕ) (rec : RecordingData) (body text : List ℕ) (floor : ℕ) (stored : Option StoredMedia) (fault : RecallFault) → IsState s → recording_of s r ≡ Some rec
    → kind_in body ≡ 2 → r ≡ rendition_in body → floor ≡ floors r → stored ≡ slice_get media r → text ≡ body → IsUnitFault floor stored rec text fault → IsRecallFault floors media s body fault
unit_fault_by floors media s r rec body text floor stored fault state found kind at floor_is stored_is text_is fails =
    unit_fault floors media s rec body floor stored r fault state kind found at floor_is stored_is (subst (λ (t : List ℕ). IsUnitFault floor stored rec t fault) text_is fails)

-- if the records before one restore a state and this one leads to no next, that is why the records restore none
fails_at : (floors : ℕ → ℕ) (media : List StoredMedia) (a : State) (bodies : List (List ℕ)) (number : ℕ) (body : List ℕ) (before : State) (fault : RecallFault) → 1 ≤ number → slice_get bodies (number - 1) ≡ Some body
    → Restores floors media a (take (number - 1) bodies) before → (IsAside body → ⊥) → IsRecallFault floors media before body fault → IsRestoreFault floors media a bodies (fault_at fault number)
fails_at floors media a bodies number body before Memory some at restores event why = tt
fails_at floors media a bodies number body before Wrong some at restores event why =
    record { before = before; body = body; at = at; some = some; restores = restores; event = event; why = why }
fails_at floors media a bodies number body before Missing some at restores event why =
    record { before = before; body = body; at = at; some = some; restores = restores; event = event; why = why }

-- the first record that leads to no next state, while they are restored one by one, is why the records restore none
pub failed_at : (floors highest : ℕ → ℕ) (media : List StoredMedia) (a : State) (bodies : List (List ℕ)) (index number : ℕ) (body : List ℕ) (before : State) (fault : RecallFault) (result : JournalFault)
    → ((r : ℕ) → floors r ≡ highest r) → index < length bodies → body ≡ get_or bodies index body → number ≡ index + 1 → result ≡ fault_at fault number → Restores floors media a (take index bodies) before
    → (IsAside body → ⊥) → IsRecallFault floors media before body fault → IsRestoreFault highest media a bodies result
failed_at floors highest media a bodies index number body before fault result same within at number_is result_is restores event fails =
    let floors_are : floors ≡ highest = λ k r. same r k in
    let place : number - 1 ≡ index = omega (arith, number_is) in
    let there : slice_get bodies (number - 1) ≡ Some body = ap (λ n. slice_get bodies n) place ∙ slice_get-get_or bodies index body within ∙ ap Some (sym at) in
    let so_far : Restores highest media a (take (number - 1) bodies) before =
    subst (λ (n : ℕ). Restores highest media a (take n bodies) before) (sym place) (subst (λ (f : ℕ → ℕ). Restores f media a (take index bodies) before) floors_are restores) in
    let why : IsRecallFault highest media before body fault = subst (λ (f : ℕ → ℕ). IsRecallFault f media before body fault) floors_are fails in
    subst (λ (x : JournalFault). IsRestoreFault highest media a bodies x) (sym result_is)
    (fails_at highest media a bodies number body before fault (omega (arith, number_is)) there so_far event why)
