-- The results of the recorder.
use Rattle.std.specs.Prelude.{◌≡◌, Result, Ok, Err}
use Rattle.hls_core.specs.declared.feed_fault.StreamFault.{StreamFault}
use Rattle.hls_core.specs.declared.feed_fault.FeedFault.{FeedFault}
use Rattle.hls_core.specs.declared.feed_fault.FeedFault.TheVariants.{Refused, Memory}

-- the value becomes the defined one, or the defined refusal is returned; memory may always run out
abbrev pub IsDefinedOrMemory : {A : Type 0} → Result A StreamFault → A → Result (Unit {0}) FeedFault → Type 0
IsDefinedOrMemory defined new (Ok done) = defined ≡ Ok new
IsDefinedOrMemory defined new (Err (Refused f)) = defined ≡ Err f
IsDefinedOrMemory defined new (Err Memory) = Unit {0}

-- the value that was read is the defined one, or the refusal is; or an allocation failed
abbrev pub IsReadOrMemory : {A : Type 0} → Result A StreamFault → Result A FeedFault → Type 0
IsReadOrMemory defined (Ok a) = defined ≡ Ok a
IsReadOrMemory defined (Err (Refused f)) = defined ≡ Err f
IsReadOrMemory defined (Err Memory) = Unit {0}
