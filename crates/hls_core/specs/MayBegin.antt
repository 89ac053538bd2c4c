-- For the proofs of this crate; no public clause cites it.
-- What follows if an event passes its tests.
use Rattle.std.specs.Prelude.{◌≡◌, ℕ, ◌<◌, ◌≤◌, Bool, true, false, List, Some, None, Result, Ok, Err, length, slice_get}
use Rattle.hls_media_laws.specs.InitData.{InitData}
use Rattle.hls_media_laws.specs.declared.facts.Facts.{Facts}
use Rattle.hls_media_laws.specs.FactLists.{last_end}
use Rattle.hls_record.specs.RecordingData.{RecordingData, duplicate_of}
use Rattle.hls_core_laws.specs.declared.event.Event.TheVariants.{Begin}
use Rattle.hls_core_laws.specs.declared.refusal.Refusal.{Refusal}
use Rattle.hls_core_laws.specs.State.{State, channel, log_limit}
use Rattle.hls_core_laws.specs.Outcome.{Repeated, begin, held_bytes}
use Rattle.hls_core_laws.specs.Moves.{IsRefused}
use Rattle.hls_core.specs.declared.rendition_state.RenditionState.{RenditionState}
use Rattle.hls_core.specs.RenditionStates.{HasRenditionState}

-- a rendition that hasn't begun, and a log that isn't full
pub record MayBegin (s : State) (r : ℕ) : Type 0 where
  pub old : RenditionState
  pub at : HasRenditionState s r old
  pub first : old.recording ≡ None
  pub room : length s.log < log_limit

-- an init section of these bytes is new, or a duplicate, or refused
abbrev pub BeginMeets : State → ℕ → List ℕ → Result Bool Refusal → Type 0
BeginMeets s r bytes (Ok true) = MayBegin s r
BeginMeets s r bytes (Ok false) = begin (slice_get (channel s).lanes r) (held_bytes s r) bytes (length s.log) ≡ Repeated
BeginMeets s r bytes (Err refusal) = (init : InitData) → IsRefused s (Begin r init bytes) refusal

-- a rendition with this recording, to which the unit may be appended if there is room for its bytes
pub record MayAccept (s : State) (r : ℕ) (f : Facts) (rec : RecordingData) : Type 0 where
  pub old : RenditionState
  pub at : HasRenditionState s r old
  pub begun : old.recording ≡ Some rec
  pub apart : duplicate_of rec f.start ≡ None
  pub later : last_end rec.facts ≤ f.start
  pub unfinished : old.finished ≡ false
  pub room : length s.log < log_limit
