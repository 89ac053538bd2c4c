-- The names of the faults, and the fault that is reported of a stream that is abandoned.
use Rattle.std.specs.Prelude.{ℕ, List, codes}
use Rattle.hls_core.specs.FaultName as stream
use Rattle.hls_core.specs.declared.feed_fault.FeedFault.{FeedFault}
use Rattle.hls_core.specs.declared.feed_fault.FeedFault.TheVariants.{Refused, Memory}
use Rattle.hls_commands.specs.ListingFaultName as listing
use Rattle.hls_commands.specs.declared.cut.fault.CutFault.{CutFault}
use Rattle.hls_commands.specs.declared.cut.fault.CutFault.TheVariants as fault

-- the name of the fault that ends a run of `cut`
abbrev pub name_of : CutFault → List ℕ
name_of (fault.Stream f) = stream.name_of f
name_of (fault.Listing f) = listing.name_of f
name_of fault.ReadFailed = codes "ReadFailed"
name_of fault.WriteFailed = codes "WriteFailed"
name_of fault.Memory = codes "Memory"

-- the fault of a run whose stream isn't ingested further: the stream's refusal, or out of memory
abbrev pub fault_of : FeedFault → CutFault
fault_of (Refused f) = fault.Stream f
fault_of Memory = fault.Memory
