-- The names of the faults.

use Rattle.std.specs.Prelude.{ℕ, List, codes}
use Rattle.hls_m3u8.specs.declared.fault.ListFault.{ListFault}
use Rattle.hls_m3u8.specs.declared.fault.ListFault.TheVariants.{NotM3u, Utf8, BadTag, MissingTag, TooLong, Memory}

-- the name of a fault
abbrev pub list_fault_name : ListFault → List ℕ
list_fault_name NotM3u = codes "NotM3u"
list_fault_name Utf8 = codes "Utf8"
list_fault_name (BadTag line) = codes "BadTag"
list_fault_name MissingTag = codes "MissingTag"
list_fault_name TooLong = codes "TooLong"
list_fault_name Memory = codes "Memory"
