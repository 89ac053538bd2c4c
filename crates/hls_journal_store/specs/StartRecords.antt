-- What a start knows of the process that wrote last.
use Rattle.std.specs.Prelude.{ℕ, List, Bool, true, false, ◌&&◌, not, replicate}
use Rattle.std.specs.Str.{bytes_eq}
use Rattle.hls_journal_store.specs.declared.start_record.StartRecord.{StartRecord}
use Rattle.hls_journal_store.specs.declared.sync_mode.SyncMode.{SyncMode}
use Rattle.hls_journal_store.specs.declared.sync_mode.SyncMode.TheVariants as modes

-- two ids of the same boot; zeros are of no boot
abbrev pub is_same_boot : List ℕ → List ℕ → Bool
is_same_boot a b = bytes_eq a b && not (bytes_eq a (replicate 16 0))

-- whether the process syncs before it reports anything
abbrev pub is_each : SyncMode → Bool
is_each modes.Each = true
is_each _ = false

-- Players may have seen more of the channel than the journal has, at a start on this boot: the machine ended before the journal was closed,
-- and what was reported wasn't synced.
abbrev pub may_lack : StartRecord → List ℕ → Bool → Bool
may_lack last boot was_closed = not (is_same_boot last.boot boot) && not was_closed && not last.is_synced
