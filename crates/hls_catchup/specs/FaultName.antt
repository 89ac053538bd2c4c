-- The names of the faults of refused requests.
use Rattle.std.specs.Prelude.{ℕ, List, codes}
use Rattle.hls_catchup.specs.declared.fault.CatchFault.{CatchFault}
use Rattle.hls_catchup.specs.declared.fault.CatchFault.TheVariants.{BadRange, BadPreferred, BadCharge, BeforeRecording, NotYet, AfterRecording, ProgrammeTooLong, Memory}

-- a fault's name as replies print it
abbrev pub catch_fault_name : CatchFault → List ℕ
catch_fault_name BadRange = codes "BadRange"
catch_fault_name BadPreferred = codes "BadPreferred"
catch_fault_name BadCharge = codes "BadCharge"
catch_fault_name BeforeRecording = codes "BeforeRecording"
catch_fault_name NotYet = codes "NotYet"
catch_fault_name AfterRecording = codes "AfterRecording"
catch_fault_name ProgrammeTooLong = codes "ProgrammeTooLong"
catch_fault_name Memory = codes "Memory"
