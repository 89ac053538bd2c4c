-- The names of the faults of refused calls.
use Rattle.std.specs.Prelude.{ℕ, List, codes}
use Rattle.hls_catchup.specs.declared.fault.JobFault.{JobFault}
use Rattle.hls_catchup.specs.declared.fault.JobFault.TheVariants.{TableFull, UnknownJob, Stray, Memory}

-- a fault's name as programs print it
abbrev pub job_fault_name : JobFault → List ℕ
job_fault_name TableFull = codes "TableFull"
job_fault_name UnknownJob = codes "UnknownJob"
job_fault_name Stray = codes "Stray"
job_fault_name Memory = codes "Memory"
