-- For the proofs of this crate; no public clause cites it.
-- The state that a snapshot's parts represent.
use Rattle.std.specs.Prelude.{◌≡◌, ℕ, List, [], ◌∷◌, ◌++◌, Some, map, slice_get, Vec}
use Rattle.std.specs.declared.sync.Arc.{Arc}
use Rattle.std.specs.Global.{Global}
use Rattle.hls_places_laws.specs.SearchPositions.{IsCursor, IsExhausted}
use Rattle.hls_core_laws.specs.declared.event.Entry.{Entry}
use Rattle.hls_core_laws.specs.State.{State, channel}
use Rattle.hls_core_laws.specs.IsState.{IsState}
use Rattle.hls_core_laws.specs.Places.{sources, places}
use Rattle.hls_core_laws.specs.Line.{line}
use Rattle.hls_core.specs.declared.line_state.LineState.{LineState}
use Rattle.hls_core.specs.declared.rendition_state.RenditionState.{RenditionState}
use Rattle.hls_core.specs.declared.snapshot.Snapshot.TheInside.{Inside}
use Rattle.hls_core.specs.RenditionStates.{lane_of, held_of, HasValidRecording}

-- the states of a snapshot's renditions, in their order
abbrev pub rendition_states_of : Inside → List RenditionState
rendition_states_of i = map (λ a. a.value) i.rendition_states.items

-- the state that a snapshot's parts represent: configuration, log, and the bytes that each rendition keeps
abbrev pub model_of : Inside → State
model_of i = record { config = i.config; log = i.log.items; bytes = map held_of (rendition_states_of i) }

-- a snapshot represents a state; its log counts from 0, its recordings are valid, and its lanes, places, cursor and live line are
-- those of that state
pub record IsSoundSnapshot (i : Inside) : Type 0 where
  pub all : i.log.first ≡ 0
  pub lanes : map lane_of (rendition_states_of i) ≡ (channel (model_of i)).lanes
  pub valid : IsState (model_of i)
  pub good : (r : ℕ) (rendition_state : RenditionState) → slice_get (rendition_states_of i) r ≡ Some rendition_state → HasValidRecording rendition_state
  -- the common places of the log, and a cursor after the last of them
  pub places : i.line_state.value.places ≡ record { first = 0; items = places (model_of i) }
  pub cursor : IsCursor i.line_state.value.cursor.value (sources (model_of i))
  pub exhausted : IsExhausted i.line_state.value.cursor.value (sources (model_of i))
  -- and the live line of these places
  pub line_is : i.line_state.value.line.value ≡ line (model_of i)

-- the parts of a snapshot after one more entry, with these rendition states and this line state
abbrev pub inside_after : State → Entry → Vec (Arc RenditionState Global) Global → Arc LineState Global → Inside
inside_after s entry rendition_states line_state = record { config = s.config; log = record { first = 0; items = s.log ++ entry ∷ [] }; rendition_states = rendition_states; line_state = line_state }
