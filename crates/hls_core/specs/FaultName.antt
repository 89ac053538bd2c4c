-- The names of a stream's faults.
use Rattle.std.specs.Prelude.{ℕ, List, codes}
use Rattle.hls_boxes.specs.FaultName as boxes
use Rattle.hls_media_laws.specs.FaultName as media
use Rattle.hls_core_laws.specs.RefusalName as core
use Rattle.hls_core.specs.declared.feed_fault.StreamFault.{StreamFault}
use Rattle.hls_core.specs.declared.feed_fault.StreamFault.TheVariants.{Boxes, Media, Core, AheadOfChannel}

-- the name of a stream's fault: that of the fault inside it, if there is one
abbrev pub name_of : StreamFault → List ℕ
name_of (Boxes fault) = boxes.box_fault_name fault
name_of (Media fault) = media.media_fault_name fault
name_of (Core refusal) = core.name_of refusal
name_of AheadOfChannel = codes "AheadOfChannel"
