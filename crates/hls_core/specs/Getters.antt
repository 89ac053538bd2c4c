-- One rendition of a state.
use Rattle.std.specs.Prelude.{ℕ, Bool, Option, Some, None, slice_get}
use Rattle.std.specs.Option.{option_map}
use Rattle.hls_media_laws.specs.InitData.{InitData}
use Rattle.hls_record.specs.RecordingData.{RecordingData}
use Rattle.hls_core_laws.specs.Channel.{Lane}
use Rattle.hls_core_laws.specs.State.{State, HeldBytes, channel}
use Rattle.hls_core_laws.specs.Outcome.{held_bytes}

-- the recording of a lane with an init section and of its kept bytes; none without an init section
abbrev pub recorded_from : Option InitData → Lane → HeldBytes → Option RecordingData
recorded_from None l h = None
recorded_from (Some init) l h = Some (record { init = init; head = h.head; facts = l.facts; floor = l.floor; units = h.units })

-- the recording of a lane, if the channel has this rendition and it has begun
abbrev pub recorded_at : Option Lane → HeldBytes → Option RecordingData
recorded_at None h = None
recorded_at (Some l) h = recorded_from l.init l h

-- the recording of a rendition, once it has begun
abbrev pub recording_of : State → ℕ → Option RecordingData
recording_of s r = recorded_at (slice_get (channel s).lanes r) (held_bytes s r)

-- whether a rendition is finished; none if the channel has no such rendition
abbrev pub finished_at : State → ℕ → Option Bool
finished_at s r = option_map (λ l. l.finished) (slice_get (channel s).lanes r)
