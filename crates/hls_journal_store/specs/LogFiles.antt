-- What is known of a log's file.
use Rattle.std.specs.Prelude.{◌≡◌, Bool, [], ◌∷◌}
use Rattle.sqlite_disk.specs.declared.modelled.Modelled.{Modelled}
use Rattle.sqlite_disk.specs.declared.calls.Calls as calls
use Rattle.sqlite_disk.specs.declared.start.Start.{Ghosts}
use Rattle.sqlite_disk.specs.Modelled.{start_of}
use Rattle.sqlite_disk.specs.Events.{settled, replay}
use Rattle.hls_journal_store.specs.declared.log_file.FileCalls.{FileCalls}

module _ {S : Type 0} {g : calls.Ghosts FileCalls} where
  -- no sync of the file has failed
  abbrev pub is_usable_file : {start : Ghosts S} → Modelled FileCalls S g start → Bool
  is_usable_file {start} f = (replay (start_of start f) f.calls.record.calls).is_usable

  -- the file was synced, and no call was made on it since
  abbrev pub IsSettled : {start : Ghosts S} → Modelled FileCalls S g start → Type 0
  IsSettled f = f.calls.record.calls ≡ settled 0 ∷ []
