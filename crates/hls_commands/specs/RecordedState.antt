-- The result of recording a stream: the state of its channel, or its first refusal.
use Rattle.std.specs.Prelude.{ℕ, List, [], ◌∷◌, Option, Some, None, Result, Ok, Err}
use Rattle.hls_boxes.specs.declared.part.Part.{Part}
use Rattle.hls_boxes.specs.declared.part.Part.TheVariants as parts
use Rattle.hls_boxes.specs.declared.fault.BoxFault.{BoxFault}
use Rattle.hls_boxes.specs.Parts.{StreamCut, stream_cut, fault_at_end}
use Rattle.hls_media_laws.specs.Inits.{init_of}
use Rattle.hls_media_laws.specs.UnitFacts.{facts}
use Rattle.hls_record.specs.RecordingData.{RecordingData}
use Rattle.hls_core_laws.specs.declared.event.Event.{Event}
use Rattle.hls_core_laws.specs.declared.event.Event.TheVariants.{Begin, Accept, Finish}
use Rattle.hls_core_laws.specs.declared.refusal.Refusal.TheVariants as refusal
use Rattle.hls_core_laws.specs.State.{State}
use Rattle.hls_core_laws.specs.Outcome.{Outcome, New, Repeated, Refused, outcome_of}
use Rattle.hls_core_laws.specs.Moves.{state_with_entry}
use Rattle.hls_core.specs.Getters.{recording_of}
use Rattle.hls_core.specs.declared.feed_fault.StreamFault.{StreamFault}
use Rattle.hls_core.specs.declared.feed_fault.StreamFault.TheVariants as fault
use Rattle.hls_core.specs.declared.feed_fault.FeedFault.{FeedFault}
use Rattle.hls_commands.specs.MemoryCases.{IsDefinedOrMemory}
use Rattle.hls_commands.specs.OrRefused.{◌>>=◌, or_refused_as}

-- a new event leads to the next state, a duplicate adds nothing, and a refused one ends the stream
abbrev pub state_by_outcome : Outcome → State → State → Result State StreamFault
state_by_outcome New new old = Ok new
state_by_outcome Repeated new old = Ok old
state_by_outcome (Refused r) new old = Err (fault.Core r)

-- the state after an event
abbrev pub state_after : State → Event → Result State StreamFault
state_after s event = state_by_outcome (outcome_of s event) (state_with_entry s 0 event) s

-- the state after one more unit, whose facts are read under the rendition's init section
abbrev pub with_unit : Option RecordingData → State → List ℕ → Result State StreamFault
with_unit None s bytes = Err (fault.Core refusal.NoInit)
with_unit (Some recorded) s bytes = or_refused_as fault.Media (facts recorded.init bytes) >>= (λ f. state_after s (Accept 0 f bytes))

-- the state after one more part of the only rendition
unfoldable pub with_part : State → Part → Result State StreamFault
with_part s (parts.Init bytes) = or_refused_as fault.Media (init_of bytes) >>= (λ init. state_after s (Begin 0 init bytes))
with_part s (parts.Unit bytes) = with_unit (recording_of s 0) s bytes

-- the result of a part that is given to the recorder, by the state after it
abbrev pub PartYields : State → Part → State → Result (Unit {0}) FeedFault → Type 0
PartYields s part t result = IsDefinedOrMemory (with_part s part) t result

-- the state after parts, one after another, or the first refusal
unfoldable pub with_parts : State → List Part → Result State StreamFault
with_parts s [] = Ok s
with_parts s (p ∷ ps) = with_part s p >>= (λ next. with_parts next ps)

-- the state at the end of a stream, when the rendition is finished
unfoldable pub state_at_end : State → Result State StreamFault
state_at_end s = state_after s (Finish 0)

-- the state at the end of a stream, unless the stream ends inside a part
abbrev pub state_unless_left : State → Option BoxFault → Result State StreamFault
state_unless_left s (Some f) = Err (fault.Boxes f)
state_unless_left s None = state_at_end s

-- the state that a stream's parts and its end lead to from an opening state, or the first refusal in the stream's order
unfoldable pub state_of : State → StreamCut → Result State StreamFault
state_of opening c = with_parts opening c.parts >>= (λ s. state_unless_left s (fault_at_end c.left))

-- the state that a whole stream leads to, or its first refusal
abbrev pub state_of_stream : State → List ℕ → Result State StreamFault
state_of_stream opening stream = state_of opening (stream_cut stream)
