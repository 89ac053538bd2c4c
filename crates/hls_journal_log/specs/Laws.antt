-- The laws, each as one statement.
use Rattle.std.specs.Prelude.{◌≡◌, ◌≢◌, ℕ, ◌+◌, ◌<◌, ◌≤◌, ◌^◌, List, ◌++◌, length, take, drop}
use Rattle.hls_journal_log.specs.declared.ending.Ending.{Ending}
use Rattle.hls_journal_log.specs.declared.ending.Ending.TheVariants.{Corrupt}
use Rattle.hls_journal_log.specs.Records.{log_bytes, record_bytes, AreWithinLimit}
use Rattle.hls_journal_log.specs.Reading.{Reads}
use Rattle.hls_journal_log.specs.SyncPoints.{sync_point_body, IsSyncPoint, synced_in, HasSyncPointBeyond}

-- complete records are read first, in order, whatever follows them
abbrev pub CompleteRecordsAreRead : Type 0
CompleteRecordsAreRead =
    (number : ℕ) (bodies : List (List ℕ)) (behind : List ℕ) (found : List (List ℕ)) (ending : Ending) → AreWithinLimit bodies
    → Reads number (log_bytes number bodies ++ behind) found ending
    → (more : List (List ℕ)) × (found ≡ bodies ++ more) × Reads (number + length bodies) behind more ending

-- of the first bytes of a log a prefix of the records is read, with each one that is complete there
abbrev pub PrefixesAreRead : Type 0
PrefixesAreRead =
    (number : ℕ) (bodies : List (List ℕ)) (len : ℕ) (found : List (List ℕ)) (ending : Ending) → AreWithinLimit bodies
    → Reads number (take len (log_bytes number bodies)) found ending
    → (found ≡ take (length found) bodies) × ((count : ℕ) → count ≤ length bodies → length (log_bytes number (take count bodies)) ≤ len → count ≤ length found)

-- the first bytes of a log, however many, don't end as a corrupt log does
abbrev pub PrefixesAreNotCorrupt : Type 0
PrefixesAreNotCorrupt =
    (number : ℕ) (bodies : List (List ℕ)) (len : ℕ) (found : List (List ℕ)) (ending : Ending) → AreWithinLimit bodies
    → Reads number (take len (log_bytes number bodies)) found ending → ending ≢ Corrupt

-- a sync point that is written is recognized, with its synced length, whatever follows it
abbrev pub SyncPointsAreFound : Type 0
SyncPointsAreFound =
    (number synced : ℕ) (behind : List ℕ) → number < 2 ^ 64 → synced < 2 ^ 64
    → IsSyncPoint (record_bytes number (sync_point_body number synced) ++ behind)
    × (synced_in (record_bytes number (sync_point_body number synced) ++ behind) ≡ synced)

-- a log that isn't damaged is read at least up to the place that any sync point in it names, if that is before the sync point
abbrev pub SyncedBytesAreRead : Type 0
SyncedBytesAreRead =
    (text rest : List ℕ) (number : ℕ) (bodies : List (List ℕ)) (at : ℕ) → text ≡ log_bytes number bodies ++ rest
    → (HasSyncPointBeyond (length (log_bytes number bodies)) rest → ⊥)
    → IsSyncPoint (drop at text) → synced_in (drop at text) ≤ at
    → synced_in (drop at text) ≤ length (log_bytes number bodies)
