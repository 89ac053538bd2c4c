-- The name of a certificate's fault.
use Rattle.std.specs.Prelude.{ℕ, List, codes}
use Rattle.hls_check_tables.specs.declared.cert_fault.CertFault.{CertFault}
use Rattle.hls_check_tables.specs.declared.cert_fault.CertFault.TheVariants.{Form, TableNotSorted, PlanEnds, PlanStep, PlanCost, PriceStart, PriceStep, EndReached, Memory}

-- the name of a certificate's fault
abbrev pub fault_name : CertFault → List ℕ
fault_name (Form line) = codes "Form"
fault_name (TableNotSorted place) = codes "TableNotSorted"
fault_name PlanEnds = codes "PlanEnds"
fault_name (PlanStep p q) = codes "PlanStep"
fault_name PlanCost = codes "PlanCost"
fault_name PriceStart = codes "PriceStart"
fault_name (PriceStep p q) = codes "PriceStep"
fault_name EndReached = codes "EndReached"
fault_name Memory = codes "Memory"
