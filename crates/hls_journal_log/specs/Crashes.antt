-- What a crash leaves of records.
use Rattle.std.specs.Prelude.{◌≡◌, ℕ, List, ◌++◌}
use Rattle.hls_journal_log.specs.declared.ending.Ending.{Ending}
use Rattle.hls_journal_log.specs.Records.{log_bytes, AreWithinLimit}
use Rattle.hls_journal_log.specs.Reading.{Reads}

-- whatever a crash leaves begins with these records
abbrev pub Survive : List (List ℕ) → (List ℕ → Type 0) → Type 0
Survive kept outcomes = (c : List ℕ) → outcomes c → (behind : List ℕ) × (c ≡ log_bytes 0 kept ++ behind)

-- records that survive a crash are read after it, first and in order
abbrev pub SurvivorsAreRead : (List ℕ → Type 0) → Type 0
SurvivorsAreRead outcomes =
    (kept : List (List ℕ)) (c : List ℕ) (found : List (List ℕ)) (ending : Ending) → AreWithinLimit kept
    → Survive kept outcomes → outcomes c → Reads 0 c found ending → (more : List (List ℕ)) × (found ≡ kept ++ more)
