-- For the proofs of this crate; no public clause cites it.
-- The lane of a rendition of a snapshot, and the bytes that it keeps.
use Rattle.std.specs.Prelude.{◌≡◌, ℕ, Bool, false, List, [], ◌∷◌, ◌++◌, Option, Some, None, length, map, slice_get, slice_set}
use Rattle.hls_record.specs.RecordingData.{RecordingData}
use Rattle.hls_record.specs.IsRecorded.{IsRecorded}
use Rattle.hls_places_laws.specs.Sources.{Source, sources_of}
use Rattle.hls_places_laws.specs.Growth.{IsLive}
use Rattle.hls_core_laws.specs.Config.{ConfigData}
use Rattle.hls_core_laws.specs.Follows.{Extends}
use Rattle.hls_core_laws.specs.Places.{facts_of, is_finished, tolerance_of, sources}
use Rattle.hls_core_laws.specs.declared.event.Entry.{Entry}
use Rattle.hls_core_laws.specs.declared.rendition.Rendition.{Rendition}
use Rattle.hls_core_laws.specs.Channel.{Lane, channel_after}
use Rattle.hls_core_laws.specs.State.{State, HeldBytes, no_bytes, channel}
use Rattle.hls_core_laws.specs.IsState.{IsState}
use Rattle.hls_core.specs.declared.rendition_state.RenditionState.{RenditionState}

-- the lane of a rendition, by its recording, if it has one, and by whether it is finished
abbrev pub lane_from : Option RecordingData → Bool → Lane
lane_from None finished = record { init = None; size = 0; facts = []; floor = 0; finished = finished }
lane_from (Some r) finished = record { init = Some r.init; size = length r.head; facts = r.facts; floor = r.floor; finished = finished }

-- the lane that a rendition state represents
abbrev pub lane_of : RenditionState → Lane
lane_of rendition_state = lane_from rendition_state.recording rendition_state.finished

-- the kept bytes of a recording; no bytes without one
abbrev pub held_from : Option RecordingData → HeldBytes
held_from None = no_bytes
held_from (Some r) = record { head = r.head; units = r.units }

-- the kept bytes of a rendition state
abbrev pub held_of : RenditionState → HeldBytes
held_of rendition_state = held_from rendition_state.recording

-- the state of a rendition that hasn't begun
abbrev pub fresh_rendition_state : Rendition → RenditionState
fresh_rendition_state _ = record { recording = None; finished = false }

-- the rendition state is that of rendition r: the channel has its lane at r, and the state keeps its bytes
pub record HasRenditionState (s : State) (r : ℕ) (rendition_state : RenditionState) : Type 0 where
  pub lane : slice_get (channel s).lanes r ≡ Some (lane_of rendition_state)
  pub held : slice_get s.bytes r ≡ Some (held_of rendition_state)

-- the state with one more entry, and with the kept bytes of this rendition state at number r
abbrev pub with_rendition : State → Entry → ℕ → RenditionState → State
with_rendition s entry r rendition_state = record { config = s.config; log = s.log ++ entry ∷ []; bytes = slice_set s.bytes r (held_of rendition_state) }

-- the renditions, as the search for common places sees them
abbrev pub sources_by : ConfigData → List RenditionState → List Source
sources_by config rendition_states =
    sources_of (map facts_of (map lane_of rendition_states)) (map tolerance_of config.renditions) (map is_finished (map lane_of rendition_states))

-- the rendition state's recording, if it has one, is valid
abbrev pub HasValidRecording : RenditionState → Type 0
HasValidRecording rendition_state = (rec : RecordingData) → rendition_state.recording ≡ Some rec → IsRecorded rec

-- the entry changes the lanes as the rendition state does, and the result is a state that continues this one, in which some rendition
-- wasn't finished
pub record MayReplaceRendition (s : State) (entry : Entry) (r : ℕ) (rendition_state : RenditionState) : Type 0 where
  pub valid : IsState (with_rendition s entry r rendition_state)
  pub lanes : (channel_after entry.event (channel s)).lanes ≡ slice_set (channel s).lanes r (lane_of rendition_state)
  pub continues : Extends s (with_rendition s entry r rendition_state)
  pub removed : (channel_after entry.event (channel s)).removed ≡ (channel s).removed
  pub live : IsLive (sources s)
  pub good : HasValidRecording rendition_state

-- the same, where only the kept units of a rendition change
pub record MayTrim (s : State) (entry : Entry) (r : ℕ) (rendition_state : RenditionState) : Type 0 where
  pub valid : IsState (with_rendition s entry r rendition_state)
  pub lanes : (channel_after entry.event (channel s)).lanes ≡ slice_set (channel s).lanes r (lane_of rendition_state)
  pub removed : (channel_after entry.event (channel s)).removed ≡ (channel s).removed
  pub same : sources (with_rendition s entry r rendition_state) ≡ sources s
  pub good : HasValidRecording rendition_state
