-- What precedes the recordings of a process: what earlier processes of the channel served. A new channel has none.
use Rattle.std.specs.Prelude.{◌≡◌, ℕ, ◌-◌, ◌≤◌, nat_le, Bool, false, if◌then◌else◌, IsTrue, ◌||◌, ◌&&◌, ◌==◌, List, ◌++◌, length, take, replicate, All, Option, Some, None, slice_index_or}
use Rattle.std.specs.List.{list_all, position_or_len}

-- the name of the run, filled up with zero bytes; and what precedes the first segment of the process: the number of segments and of
-- their marks, whether that segment has a mark, the number of bytes of each rendition's units, and the number of log entries
pub record BaseData : Type 0 where
  pub run : List ℕ
  pub segments : ℕ
  pub marks : ℕ
  pub marked : Bool
  pub bytes : List ℕ
  pub version : ℕ

-- the maximum length of the name of a run, in bytes
abbrev pub run_limit : ℕ
run_limit = 16

-- nothing precedes, and the run has no name
abbrev pub no_base : BaseData
no_base = record { run = replicate 16 0; segments = 0; marks = 0; marked = false; bytes = replicate 16 0; version = 0 }

-- the name that a field of 16 bytes has: what precedes the first zero byte
abbrev pub run_text : List ℕ → List ℕ
run_text run = take (position_or_len (λ b. b == 0) run) run

-- an ASCII letter or digit
abbrev pub is_run_byte : ℕ → Bool
is_run_byte b = (nat_le 48 b && nat_le b 57) || (nat_le 65 b && nat_le b 90) || (nat_le 97 b && nat_le b 122)

-- a run has 1 to 16 letters and digits
abbrev pub is_run_name : List ℕ → Bool
is_run_name text = nat_le 1 (length text) && nat_le (length text) run_limit && list_all is_run_byte text

-- a run's name, filled up with zero bytes to 16 bytes
abbrev pub padded_run : List ℕ → List ℕ
padded_run text = text ++ replicate (run_limit - length text) 0

-- a run's name as a field of 16 bytes, or none if the text isn't the name of a run
abbrev pub run_field : List ℕ → Option (List ℕ)
run_field text = if is_run_name text then Some (padded_run text) else None

-- the number of bytes of a rendition's units that precede the recordings
abbrev pub bytes_before_base : BaseData → ℕ → ℕ
bytes_before_base base r = slice_index_or base.bytes r 0

-- the greatest number of a base
abbrev pub base_limit : ℕ
base_limit = 900000000000000

-- a base that can precede: a run of letters and digits, no mark before the first segment of a channel, and counts up to a limit
pub record IsBase (base : BaseData) : Type 0 where
  pub run : All (λ b. IsTrue (is_run_byte b)) (run_text base.run)
  -- each mark is that of a segment, and the first segment of a channel has none
  pub marks : base.marks ≤ base.segments
  pub first : base.segments ≡ 0 → base.marked ≡ false
  pub segments : base.segments ≤ base_limit
  pub bytes : All (λ n. n ≤ base_limit) base.bytes
  pub version : base.version ≤ base_limit
