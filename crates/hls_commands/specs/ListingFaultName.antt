-- The names of the faults.
use Rattle.std.specs.Prelude.{ℕ, List, codes}
use Rattle.hls_commands.specs.declared.listing_fault.ListingFault.{ListingFault}
use Rattle.hls_commands.specs.declared.listing_fault.ListingFault.TheVariants.{NoPlace, ProgrammeTooLong, NotAllowed, Memory}

-- the name of the fault for which a recording isn't listed
abbrev pub name_of : ListingFault → List ℕ
name_of NoPlace = codes "NoPlace"
name_of ProgrammeTooLong = codes "ProgrammeTooLong"
name_of (NotAllowed place) = codes "NotAllowed"
name_of Memory = codes "Memory"
