-- The result of reading a log, and of beginning to append to it.
use Rattle.std.specs.Prelude.{◌≡◌, ℕ, ◌+◌, List, length, drop, Result, Ok, Err, ⊤}
use Rattle.sqlite_disk.specs.Disk.{Only}
use Rattle.hls_journal_log.specs.declared.ending.Ending.{Ending}
use Rattle.hls_journal_log.specs.declared.fault.LogFault.{LogFault}
use Rattle.hls_journal_log.specs.declared.fault.LogFault.TheVariants.{Memory, Disk, Damaged}
use Rattle.hls_journal_log.specs.declared.read.LogContent.{LogContent}
use Rattle.hls_journal_log.specs.declared.open.ReadLog.{ReadLog}
use Rattle.hls_journal_log.specs.Records.{log_bytes}
use Rattle.hls_journal_log.specs.Reading.{Reads}
use Rattle.hls_journal_log.specs.SyncPoints.{HasSyncPointBeyond}

-- the records of a text, and no sync point after them names a later byte
pub record IsRead (text : List ℕ) (content : LogContent) : Type 0 where
  pub reads : Reads 0 text content.bodies.items content.ending
  pub len : content.len ≡ length (log_bytes 0 content.bodies.items)
  pub undamaged : HasSyncPointBeyond content.len (drop content.len text) → ⊥

-- no record begins at this place, and a sync point after it names a later byte
pub record IsDamaged (text : List ℕ) (at : ℕ) : Type 0 where
  pub bodies : List (List ℕ)
  pub ending : Ending
  pub reads : Reads 0 text bodies ending
  pub place : at ≡ length (log_bytes 0 bodies)
  pub beyond : HasSyncPointBeyond at (drop at text)

-- the result of reading a text: its records, or the place where it is damaged, or an allocation failed
abbrev pub Judges : List ℕ → Result LogContent LogFault → Type 0
Judges text (Ok content) = IsRead text content
Judges text (Err Memory) = ⊤
Judges text (Err (Disk error)) = ⊥
Judges text (Err (Damaged at)) = IsDamaged text at

-- the result of reading the text on a disk, which may fail; the last `dropped` bytes of the text are no records
abbrev pub JudgesDisk : List ℕ → Result ReadLog LogFault → Type 0
JudgesDisk text (Ok read) = IsRead text read.content × (read.dropped + read.content.len ≡ length text)
JudgesDisk text (Err Memory) = ⊤
JudgesDisk text (Err (Disk error)) = ⊤
JudgesDisk text (Err (Damaged at)) = IsDamaged text at

-- if there is no text, an allocation or the disk failed
abbrev pub MayFail : Result (List ℕ) LogFault → Type 0
MayFail (Ok text) = ⊤
MayFail (Err Memory) = ⊤
MayFail (Err (Disk error)) = ⊤
MayFail (Err (Damaged at)) = ⊥

-- a file with these bytes is read, and what isn't complete is cut off: the file is the records, and so is what a crash leaves
pub record Opens (old new : List ℕ) (outcomes : List ℕ → Type 0) (content : LogContent) : Type 0 where
  pub read : IsRead old content
  pub cut : new ≡ log_bytes 0 content.bodies.items
  pub durable : Only new outcomes
