-- The result of a call on the live line: as defined, or an allocation failure where the definition has no fault.
use Rattle.std.specs.Prelude.{◌≡◌, true, Result, Ok, Err, is_ok}
use Rattle.hls_places_laws.specs.declared.fault.LineFault.{LineFault}
use Rattle.hls_places_laws.specs.declared.fault.LineFault.TheVariants.{TooMany, TooShort, Ended, Memory}

abbrev pub IsResultOrMemory : {A : Type 0} → Result A LineFault → Result A LineFault → Type 0
IsResultOrMemory defined (Ok value) = defined ≡ Ok value
IsResultOrMemory defined (Err Memory) = is_ok defined ≡ true
IsResultOrMemory defined (Err TooMany) = defined ≡ Err TooMany
IsResultOrMemory defined (Err TooShort) = defined ≡ Err TooShort
IsResultOrMemory defined (Err Ended) = defined ≡ Err Ended
