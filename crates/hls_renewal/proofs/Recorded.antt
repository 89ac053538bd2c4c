-- What a recording says of its rendition's lane.
use Rattle.std.proofs.Common.{◌≡◌, ℕ, Option, Some, None, refl, sym, ap}
use Rattle.std.specs.Prelude.{slice_get}
use Rattle.hls_media_laws.specs.InitData.{InitData}
use Rattle.hls_record.specs.RecordingData.{RecordingData}
use Rattle.hls_core_laws.specs.Channel.{Lane}
use Rattle.hls_core_laws.specs.State.{State, HeldBytes, channel}
use Rattle.hls_core_laws.specs.Outcome.{held_bytes}
use Rattle.hls_core.specs.Getters.{recording_of, recorded_at, recorded_from}

-- a recording is of its rendition's lane: it has the lane's init section and facts, and the bytes of the section that the state keeps
pub record IsOfLane (s : State) (r : ℕ) (rec : RecordingData) : Type 0 where
  pub its : Lane
  pub at : slice_get (channel s).lanes r ≡ Some its
  pub begun : its.init ≡ Some rec.init
  pub facts : rec.facts ≡ its.facts
  pub head : rec.head ≡ (held_bytes s r).head

-- a recording that is made of a lane has the lane's init section and facts, and the section's kept bytes
by_init : (l : Lane) (h : HeldBytes) (rec : RecordingData) (i : Option InitData) → recorded_from i l h ≡ Some rec → (i ≡ Some rec.init) × (rec.facts ≡ l.facts) × (rec.head ≡ h.head)
by_init l h rec None found = absurd (cc)
by_init l h rec (Some init) found =
    let same : record { init = init; head = h.head; facts = l.facts; floor = l.floor; units = h.units } ≡ rec = cc in
    (ap (λ (x : RecordingData). Some x.init) same, sym (ap (λ (x : RecordingData). x.facts) same), sym (ap (λ (x : RecordingData). x.head) same))

-- a recording that is found by its rendition's lane is of this lane
by_lane : (s : State) (r : ℕ) (rec : RecordingData) (o : Option Lane) → slice_get (channel s).lanes r ≡ o → recorded_at o (held_bytes s r) ≡ Some rec → IsOfLane s r rec
by_lane s r rec None at found = absurd (cc)
by_lane s r rec (Some l) at found =
    let by = by_init l (held_bytes s r) rec l.init found in
    record { its = l; at = at; begun = by.0; facts = by.1; head = by.2 }

-- the recording of a rendition of a state is of the rendition's lane
pub of_lane : (s : State) (r : ℕ) (rec : RecordingData) → recording_of s r ≡ Some rec → IsOfLane s r rec
of_lane s r rec found = by_lane s r rec (slice_get (channel s).lanes r) refl found
