-- The names of the faults of a configuration.
use Rattle.std.specs.Prelude.{ℕ, List, codes}
use Rattle.hls_core.specs.declared.config.ConfigFault.{ConfigFault}
use Rattle.hls_core.specs.declared.config.ConfigFault.TheVariants as faults

-- the name of a configuration's fault, without the rendition's number
abbrev pub name_of : ConfigFault → List ℕ
name_of faults.BadTarget = codes "BadTarget"
name_of faults.BadPreferred = codes "BadPreferred"
name_of (faults.BadRendition n) = codes "BadRendition"
name_of faults.BadEpoch = codes "BadEpoch"
name_of faults.Memory = codes "Memory"
