-- The statuses of refused encoders' bodies; the names of the faults are a stream's (`hls_core/specs/FaultName.antt`).
use Rattle.hls_core.specs.declared.feed_fault.StreamFault.TheVariants.{Boxes, Media, Core, AheadOfChannel}
use Rattle.hls_http.specs.declared.response_parts.Status.TheVariants.{BadRequest, NotFound, Conflict, ContentTooLarge, Unavailable, InsufficientStorage}
use Rattle.hls_api.specs.Types.{Refusal, StreamFault, Status}
use Rattle.hls_boxes.specs.declared.fault.BoxFault.TheVariants as boxes
use Rattle.hls_media_laws.specs.declared.fault.MediaFault.TheVariants as media
use Rattle.hls_core_laws.specs.declared.refusal.Refusal.TheVariants as core

-- what the channel's state doesn't allow is 409 (section 15.5.10), a full store is 507 (RFC 4918, section 11.5)
abbrev pub core_status : Refusal → Status
core_status core.UnknownRendition = NotFound
core_status core.LedgerFull = InsufficientStorage
core_status core.RecordingFull = InsufficientStorage
core_status core.Memory = Unavailable
core_status _ = Conflict

-- a part that is too large is 413 (RFC 9110, section 15.5.14), an invalid one 400
abbrev pub status_of : StreamFault → Status
status_of (Boxes boxes.TooLarge) = ContentTooLarge
status_of (Boxes boxes.Memory) = Unavailable
status_of (Media media.Memory) = Unavailable
status_of (Core refusal) = core_status refusal
status_of AheadOfChannel = Conflict
status_of _ = BadRequest
