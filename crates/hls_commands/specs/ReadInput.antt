-- For the proofs of this crate; no public clause cites it.
-- The result of reading a stream.
use Rattle.std.specs.Prelude.{◌≡◌, ℕ, ◌-◌, List, [], ◌++◌, take, min, Option, Some, None, Result, Ok, Err, Vec}
use Rattle.std.specs.Global.{Global}
use Rattle.hls_io.specs.Failures.{FailuresRose}
use Rattle.hls_commands.specs.declared.read_input.ReadFault.{ReadFault}
use Rattle.hls_commands.specs.declared.read_input.ReadFault.TheVariants as unread

-- the bytes that are held of those read: all, or at most a given number of the first
abbrev pub kept_bytes : Option ℕ → List ℕ → List ℕ
kept_bytes None bytes = bytes
kept_bytes (Some most) bytes = take most bytes

-- how many of `len` more bytes are held if `held` bytes are held already
abbrev pub held_len : Option ℕ → ℕ → ℕ → ℕ
held_len None held len = len
held_len (Some most) held len = min (most - held) len

-- the text was read completely, with nothing left of the stream; or a fault ended the reading
abbrev pub ReadsOf : Option ℕ → List ℕ → List ℕ → Result (Vec ℕ Global) ReadFault → Type 0
ReadsOf most taken rest (Ok bytes) = (rest ≡ []) × (bytes.items ≡ kept_bytes most taken)
ReadsOf most taken rest (Err f) = Unit {0}

-- some of the stream was read, with this result; the bytes read and the bytes left make up the stream
pub record Reads (most : Option ℕ) (stream : List ℕ) (left : Option (List ℕ)) (result : Result (Vec ℕ Global) ReadFault) : Type 0 where
  pub taken : List ℕ
  pub rest : List ℕ
  pub left_is : left ≡ Some rest
  pub split : stream ≡ taken ++ rest
  pub yields : ReadsOf most taken rest result

-- a failed read is reported, and only if one was counted
abbrev pub CountsReading : Result (Vec ℕ Global) ReadFault → ℕ → ℕ → Type 0
CountsReading (Err unread.ReadFailed) old new = FailuresRose old new
CountsReading result old new = new ≡ old
