-- The failed reads and writes that a session's reader and writer counted.
use Rattle.std.specs.Prelude.{◌≡◌, ℕ}
use Rattle.hls_io.specs.{Counted.failures_of, Failures.FailuresRose}
use Rattle.hls_http.specs.{declared.{end.SessionEnd.SessionEnd, session.Session.Session}, BufferedReader.read_failures}
use Rattle.hls_http.specs.declared.end.SessionEnd.TheVariants as ends

-- a session that ends by a failed read or write counted such failures and no others; one that ends otherwise counted none
abbrev pub CountsSession : SessionEnd → ℕ → ℕ → ℕ → ℕ → Type 0
CountsSession ends.ReadFailed old_reads reads old_writes writes = FailuresRose old_reads reads × (writes ≡ old_writes)
CountsSession ends.WriteFailed old_reads reads old_writes writes = (reads ≡ old_reads) × FailuresRose old_writes writes
CountsSession end old_reads reads old_writes writes = (reads ≡ old_reads) × (writes ≡ old_writes)

-- ---- by the counts of a session's own reader and writer

-- the failures that a session's own reader and writer counted agree with its end
abbrev pub SessionCounts : {R W : Type 0} → Session R W → Session R W → SessionEnd → Type 0
SessionCounts old new end =
    CountsSession end (read_failures old.source) (read_failures new.source) (failures_of old.writer) (failures_of new.writer)
