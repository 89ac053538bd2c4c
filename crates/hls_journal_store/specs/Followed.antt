-- What a follower writes of a state.
use Rattle.std.specs.Prelude.{◌≡◌, ◌⊎◌, ℕ, ◌+◌, List, [], ◌∷◌, ◌++◌, length, take, drop}
use Rattle.hls_core_laws.specs.declared.event.Entry.{Entry}
use Rattle.hls_core_laws.specs.State.{State}
use Rattle.hls_core.specs.Getters.{recording_of}
use Rattle.hls_journal_laws.specs.Bodies.{IsAside}
use Rattle.hls_journal_log.specs.Records.{log_bytes}
use Rattle.hls_journal_log.specs.Crashes.{Survive}
use Rattle.hls_journal_store.specs.declared.batch.MediaWrite.{MediaWrite}
use Rattle.hls_journal_store.specs.declared.batch.Position.{Position}
use Rattle.hls_journal_store.specs.Batches.{rendition_in, number_in, counted, IsLoggedRecord}

-- records of no event
abbrev pub AreAsides : List (List ℕ) → Type 0
AreAsides [] = Unit {0}
AreAsides (b ∷ bs) = IsAside b × AreAsides bs

-- the records of consecutive log entries, in order, and records of no event among them; they lead from these counts of units to others
abbrev pub AreFollowed : State → List ℕ → List Entry → List (List ℕ) → List ℕ → Type 0
AreFollowed s counts es [] after = (es ≡ []) × (after ≡ counts)
AreFollowed s counts es (b ∷ bs) after =
    (IsAside b × AreFollowed s counts es bs after)
    ⊎ ((e : Entry) × (more : List Entry) × (own : List MediaWrite) × (es ≡ e ∷ more)
    × IsLoggedRecord (recording_of s (rendition_in e.event)) (number_in counts e.event) e b own × AreFollowed s (counted counts e.event) more bs after)

-- these records lead from a journal's position to another: they are of the entries of a state's log between the two
pub record Leads (s : State) (from to : Position) (records : List (List ℕ)) : Type 0 where
  pub count : ℕ
  pub version : to.version ≡ from.version + count
  pub followed : AreFollowed s from.counts.items (take count (drop from.version s.log)) records to.counts.items

-- a log has these records more at its end; if nothing followed its end, its bytes are the earlier ones and theirs
pub record Adds (records : List (List ℕ)) (next next' end end' : ℕ) (seen seen' : List ℕ) : Type 0 where
  pub number : next' ≡ next + length records
  pub place : end' ≡ end + length (log_bytes next records)
  pub bytes : length seen ≡ end → seen' ≡ seen ++ log_bytes next records

-- a log has records of no event more, and after them these ones
pub record AddsAfterAsides (records : List (List ℕ)) (next next' end end' : ℕ) (seen seen' : List ℕ) : Type 0 where
  pub asides : List (List ℕ)
  pub aside : AreAsides asides
  pub adds : Adds (asides ++ records) next next' end end' seen seen'

-- a log has the records more that lead from one position to another
pub record Grows (s : State) (from to : Position) (next next' end end' : ℕ) (seen seen' : List ℕ) : Type 0 where
  pub records : List (List ℕ)
  pub leads : Leads s from to records
  pub adds : Adds records next next' end end' seen seen'

-- whatever a crash leaves of the log begins with its earlier records, records of no event, and these ones
abbrev pub AreDurable : List (List ℕ) → ℕ → ℕ → List ℕ → (List ℕ → Type 0) → Type 0
AreDurable records next end seen outcomes =
    (before : List (List ℕ)) → seen ≡ log_bytes 0 before → next ≡ length before → end ≡ length (log_bytes 0 before)
    → (asides : List (List ℕ)) × AreAsides asides × Survive (before ++ (asides ++ records)) outcomes

-- whatever a crash leaves of the log begins with its earlier records, and with those that lead from one position to the other
abbrev pub IsDurable : State → Position → Position → ℕ → ℕ → List ℕ → (List ℕ → Type 0) → Type 0
IsDurable s from to next end seen outcomes =
    (before : List (List ℕ)) → seen ≡ log_bytes 0 before → next ≡ length before → end ≡ length (log_bytes 0 before)
    → (records : List (List ℕ)) × Leads s from to records × Survive (before ++ records) outcomes
