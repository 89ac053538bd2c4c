-- The result of reading a stream, from an opening state.
use Rattle.std.specs.Prelude.{◌≡◌, ℕ, List, [], ◌++◌, Option, Some, Result, Ok, Err, ◌⊎◌}
use Rattle.hls_core_laws.specs.State.{State}
use Rattle.hls_core.specs.declared.feed_fault.StreamFault.{StreamFault}
use Rattle.hls_core.specs.Streams.{IsTaken}
use Rattle.hls_commands.specs.declared.cut.fault.CutFault.{CutFault}
use Rattle.hls_commands.specs.declared.cut.fault.CutFault.TheVariants as fault
use Rattle.hls_io.specs.Failures.{FailuresRose}
use Rattle.hls_commands.specs.RecordedState.{PartYields, state_at_end, state_of_stream}

-- nothing in the bytes that were read is refused yet
abbrev pub IsOpen : State → List ℕ → Type 0
IsOpen opening taken = (s : State) × IsTaken PartYields opening taken s

-- this is the refusal of a stream that begins with the bytes that were read, whatever follows
abbrev pub IsRefused : State → List ℕ → StreamFault → Type 0
IsRefused opening taken f = (more : List ℕ) → state_of_stream opening (taken ++ more) ≡ Err f

-- this is the refusal of the whole stream, or of a stream that begins with the bytes that were read
abbrev pub EndsReading : State → StreamFault → List ℕ → List ℕ → Type 0
EndsReading opening f taken rest = ((rest ≡ []) × (state_of_stream opening taken ≡ Err f)) ⊎ IsRefused opening taken f

-- the result of recording `taken` from an opening state, with `rest` left and the state s reached
abbrev pub RecordsRead : State → List ℕ → List ℕ → State → Result (Unit {0}) CutFault → Type 0
RecordsRead opening taken rest s (Ok done) = (rest ≡ []) × (state_of_stream opening taken ≡ state_at_end s)
RecordsRead opening taken rest s (Err (fault.Stream f)) = EndsReading opening f taken rest
RecordsRead opening taken rest s (Err fault.ReadFailed) = IsOpen opening taken
RecordsRead opening taken rest s (Err fault.Memory) = Unit {0}
RecordsRead opening taken rest s (Err f) = ⊥

-- some of the stream was recorded, with this result; the bytes read and the bytes left make up the stream
pub record RecordsStream (opening : State) (stream : List ℕ) (left : Option (List ℕ)) (s : State) (result : Result (Unit {0}) CutFault) : Type 0 where
  pub taken : List ℕ
  pub rest : List ℕ
  pub left_is : left ≡ Some rest
  pub split : stream ≡ taken ++ rest
  pub yields : RecordsRead opening taken rest s result

-- a failure of the reader is reported, and only if one was counted
abbrev pub CountsReads : {A : Type 0} → Result A CutFault → ℕ → ℕ → Type 0
CountsReads (Ok done) old new = new ≡ old
CountsReads (Err fault.ReadFailed) old new = FailuresRose old new
CountsReads (Err fault.WriteFailed) old new = ⊥
CountsReads (Err f) old new = new ≡ old
