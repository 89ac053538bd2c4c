-- What one read yields.
use Rattle.std.specs.Prelude.{◌≡◌, ℕ, ◌<◌, List, [], ◌++◌, length, slice_range, Option, Result, Ok, Err}
use Rattle.std.specs.Io.KnownBytes.{Consumes, IsAtEnd, Keeps}
use Rattle.hls_io.specs.Failures.{FailuresRose}
use Rattle.hls_http.specs.declared.input_buffer.ReadOutcome.{ReadOutcome, TheVariants.{Data, Eof, Failed}}

-- a read yields some bytes; or none, at the end of the input or on a failure
abbrev pub IsReadOutcome : ReadOutcome → List ℕ → Option (List ℕ) → Type 0
IsReadOutcome Data bytes left = 0 < length bytes
IsReadOutcome Eof bytes left = (bytes ≡ []) × IsAtEnd left
IsReadOutcome Failed bytes left = bytes ≡ []

-- a read appends bytes from the reader to the unread bytes
pub record ReadsMore (old new : List ℕ) (before left : Option (List ℕ)) (filled : ReadOutcome) : Type 0 where
  pub bytes : List ℕ
  pub following : new ≡ old ++ bytes
  pub consumes : Consumes before left bytes
  pub outcome_is : IsReadOutcome filled bytes left

-- a failed read raises the number of failures; any other outcome leaves it
abbrev pub CountsFill : ReadOutcome → ℕ → ℕ → Type 0
CountsFill Failed old new = FailuresRose old new
CountsFill _ old new = new ≡ old

-- a number of bytes from the reader, appended to the unread bytes, zero only at the end of the input; or nothing changed
abbrev pub IsAppended : {E : Type 0} → List ℕ → List ℕ → Option (List ℕ) → Option (List ℕ) → Result ℕ E → Type 0
IsAppended old new before left (Ok n) =
    (bytes : List ℕ) × (length bytes ≡ n) × (new ≡ old ++ bytes) × Consumes before left bytes × (n ≡ 0 → IsAtEnd left)
IsAppended old new before left (Err e) = (new ≡ old) × Keeps before left

-- the same, with all unread bytes in one range of the buffer
abbrev pub IsAppendedWithin : {E : Type 0} → List ℕ → List ℕ → ℕ → ℕ → Option (List ℕ) → Option (List ℕ) → Result ℕ E → Type 0
IsAppendedWithin old buffer from until before left read = IsAppended old (slice_range buffer from until) before left read
