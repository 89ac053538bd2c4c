-- The printed names of the faults.
use Rattle.std.specs.Prelude.{ℕ, List, codes}
use Rattle.hls_boxes.specs.declared.fault.BoxFault.{BoxFault}
use Rattle.hls_boxes.specs.declared.fault.BoxFault.TheVariants.{BadSize, TooLarge, OpenEnded, MdatAlone, MoofWithoutMdat, Truncated, Memory}

-- the name of a fault, as programs and responses print it
abbrev pub box_fault_name : BoxFault → List ℕ
box_fault_name BadSize = codes "BadSize"
box_fault_name TooLarge = codes "TooLarge"
box_fault_name OpenEnded = codes "OpenEnded"
box_fault_name MdatAlone = codes "MdatAlone"
box_fault_name MoofWithoutMdat = codes "MoofWithoutMdat"
box_fault_name Truncated = codes "Truncated"
box_fault_name Memory = codes "Memory"
