-- For the proofs of this crate; no public clause cites it.
-- The event for an encoder's body.
use Rattle.std.specs.Prelude.{Option, Some, None, Result}
use Rattle.std.specs.Option.{is_some}
use Rattle.hls_api.specs.declared.ingest.IngestStop.{IngestStop}
use Rattle.hls_connection.specs.{declared.events.SessionEvent.SessionEvent, declared.events.SessionEvent.TheVariants.Ingested}
use Rattle.hls_connection.specs.{declared.receive.BodyTarget.BodyTarget, declared.receive.ReceivingBody.ReceivingBody}
use Rattle.hls_connection.specs.declared.receive.BodyTarget.TheVariants.{Nothing, Encoder}

-- the event for an encoder's body: how many of its parts were taken, and how it ended; none for a body that is discarded
abbrev pub ingest_event_into : BodyTarget → ReceivingBody → Result (Unit {0}) IngestStop → Option SessionEvent
ingest_event_into (Nothing room) r end = None
ingest_event_into (Encoder encoder reader) r end = Some (Ingested (record { rendition = encoder.rendition; is_mended = is_some encoder.mending; counts = r.taken.counts; result = end }))

-- the event for a body that is received, with how it ended
abbrev pub ingest_event : ReceivingBody → Result (Unit {0}) IngestStop → Option SessionEvent
ingest_event r end = ingest_event_into r.target r end
