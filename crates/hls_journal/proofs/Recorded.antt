-- What a recording says of its rendition's lane.
use Rattle.std.proofs.Common.{◌≡◌, ◌∙◌, ℕ, ◌+◌, ◌<◌, ◌≤◌, Option, Some, None, List, length, refl, sym, ap, subst, inl, inr}
use Rattle.std.specs.Prelude.{Ok, slice_get}
use Rattle.hls_media_laws.specs.InitData.{InitData}
use Rattle.hls_media_laws.specs.UnitFacts.{facts}
use Rattle.hls_media_laws.specs.FactLists.{total_bytes}
use Rattle.hls_media_laws.specs.IsInitOrUnit.{IsUnit}
use Rattle.hls_media_laws.specs.declared.facts.Facts.{Facts}
use Rattle.hls_record.specs.RecordingData.{RecordingData, total_of}
use Rattle.hls_core_laws.specs.declared.event.Event.{Event}
use Rattle.hls_core_laws.specs.declared.event.Event.TheVariants.{Accept}
use Rattle.hls_core_laws.specs.Channel.{Lane, no_lane, lane, lane_len}
use Rattle.hls_core_laws.specs.State.{State, HeldBytes, no_bytes, channel}
use Rattle.hls_core_laws.specs.IsState.{IsState, MatchesBytes}
use Rattle.hls_core_laws.specs.Outcome.{held_bytes}
use Rattle.hls_core_laws.specs.Moves.{IsFitting}
use Rattle.hls_core_laws.proofs.Callers.{at_beside, at_or}
use Rattle.hls_core.specs.Getters.{recording_of, recorded_at, recorded_from}
use Rattle.hls_journal_laws.specs.declared.stored_media.StoredMedia.{StoredMedia}
use Rattle.hls_journal_laws.specs.Bodies.{kind_in, rendition_in}
use Rattle.hls_journal_laws.specs.Restored.{IsStoredUnit, IsNextUnit, IsRecordOf}
use Rattle.hls_journal.specs.Recalling.{IsUnitOf, AcceptsNext}

-- a recording is of its rendition's lane: it has the lane's init section and facts, and the bytes of the section that the state keeps
pub record IsOfLane (s : State) (r : ℕ) (rec : RecordingData) : Type 0 where
  pub its : Lane
  pub at : slice_get (channel s).lanes r ≡ Some its
  pub begun : its.init ≡ Some rec.init
  pub facts : rec.facts ≡ its.facts
  pub head : rec.head ≡ (held_bytes s r).head

-- a recording that is made of a lane has the lane's init section and facts, and the section's kept bytes
by_init : (l : Lane) (h : HeldBytes) (rec : RecordingData) (i : Option InitData) → recorded_from i l h ≡ Some rec → (i ≡ Some rec.init) × (rec.facts ≡ l.facts) × (rec.head ≡ h.head)
by_init l h rec None found = absurd (cc)
by_init l h rec (Some init) found =
    let same : record { init = init; head = h.head; facts = l.facts; floor = l.floor; units = h.units } ≡ rec = cc in
    (ap (λ (x : RecordingData). Some x.init) same, sym (ap (λ (x : RecordingData). x.facts) same), sym (ap (λ (x : RecordingData). x.head) same))

-- a recording that is found by its rendition's lane is of this lane
by_lane : (s : State) (r : ℕ) (rec : RecordingData) (o : Option Lane) → slice_get (channel s).lanes r ≡ o → recorded_at o (held_bytes s r) ≡ Some rec → IsOfLane s r rec
by_lane s r rec None at found = absurd (cc)
by_lane s r rec (Some l) at found =
    let by = by_init l (held_bytes s r) rec l.init found in
    record { its = l; at = at; begun = by.0; facts = by.1; head = by.2 }

-- the recording of a rendition of a state is of the rendition's lane
pub of_lane : (s : State) (r : ℕ) (rec : RecordingData) → recording_of s r ≡ Some rec → IsOfLane s r rec
of_lane s r rec found = by_lane s r rec (slice_get (channel s).lanes r) refl found

-- a unit whose facts were read under its init section fits
pub unit_fits : (s : State) (r : ℕ) (rec : RecordingData) (f : Facts) (bytes : List ℕ) → recording_of s r ≡ Some rec → IsUnit rec.init bytes f → IsFitting s (Accept r f bytes)
unit_fits s r rec f bytes found read l init at begun =
    let of = of_lane s r rec found in
    let same : l ≡ of.its = cc in
    let inits : Some init ≡ Some rec.init = sym begun ∙ ap (λ (x : Lane). x.init) same ∙ of.begun in
    let is : rec.init ≡ init = cc in
    subst (λ (i : InitData). facts i bytes ≡ Ok f) is read

-- a recording has the facts of its rendition's lane
pub facts_are : (s : State) (r : ℕ) (rec : RecordingData) → recording_of s r ≡ Some rec → rec.facts ≡ (lane (channel s) r).facts
facts_are s r rec found =
    let of = of_lane s r rec found in
    of.facts ∙ ap (λ (l : Lane). l.facts) (sym (at_or (channel s).lanes r no_lane of.its of.at))

-- the resource of a recording is as long as its rendition's lane
pub total_is : (s : State) (r : ℕ) (rec : RecordingData) → IsState s → recording_of s r ≡ Some rec → total_of rec ≡ lane_len (lane (channel s) r)
total_is s r rec state found =
    let of = of_lane s r rec found in
    let beside = at_beside (channel s).lanes s.bytes r of.its state.counts_agree of.at in
    let held_is : held_bytes s r ≡ beside.0 = at_or s.bytes r no_bytes beside.0 beside.1 in
    let matches : MatchesBytes of.its beside.0 = state.fits r of.its beside.0 of.at beside.1 in
    let size : length rec.head ≡ (of.its).size = ap length of.head ∙ ap (λ (h : HeldBytes). length h.head) held_is ∙ sym matches.size in
    ap (λ n. n + total_bytes rec.facts) size ∙ ap (λ fs. (of.its).size + total_bytes fs) of.facts
    ∙ ap lane_len (sym (at_or (channel s).lanes r no_lane of.its of.at))

-- the bytes of a recording's next unit are those of the rendition's next unit in the state
pub next_unit : (floors : ℕ → ℕ) (media : List StoredMedia) (s : State) (r : ℕ) (rec : RecordingData) (body bytes : List ℕ) → IsState s → recording_of s r ≡ Some rec
    → IsUnitOf (floors r) (slice_get media r) rec body bytes → IsNextUnit floors media s r body bytes
next_unit floors media s r rec body bytes state found (inl below) =
    inl (subst (λ (fs : List Facts). length fs < floors r) (facts_are s r rec found) below.0, below.1)
next_unit floors media s r rec body bytes state found (inr stored) =
    inr (
      subst (λ (fs : List Facts). floors r ≤ length fs) (facts_are s r rec found) stored.0,
      subst (λ (k : ℕ). IsStoredUnit media r k body bytes) (total_is s r rec state found) stored.1,
    )

-- the next unit of a recording is the event of its record
pub accepted_of : (floors : ℕ → ℕ) (media : List StoredMedia) (s : State) (r : ℕ) (rec : RecordingData) (body : List ℕ) (event : Event) → IsState s → recording_of s r ≡ Some rec → kind_in body ≡ 2 → r ≡ rendition_in body
    → AcceptsNext (floors r) (slice_get media r) rec r body event → IsRecordOf floors media s body event
accepted_of floors media s r rec body event state found kind at accepts =
    subst (λ (e : Event). IsRecordOf floors media s body e) (sym accepts.4)
    (kind, at, next_unit floors media s r rec body accepts.1 state found accepts.2, accepts.5)

-- the next unit of a recording fits the state
pub accepted_fits : (floor : ℕ) (media : Option StoredMedia) (s : State) (r : ℕ) (rec : RecordingData) (body : List ℕ) (event : Event) → recording_of s r ≡ Some rec
    → AcceptsNext floor media rec r body event → IsFitting s event
accepted_fits floor media s r rec body event found accepts =
    subst (λ (e : Event). IsFitting s e) (sym accepts.4) (unit_fits s r rec accepts.0 accepts.1 found accepts.3)
