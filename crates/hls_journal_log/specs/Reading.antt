-- The records that are read from a text.
use Rattle.std.specs.Prelude.{◌≡◌, ◌≢◌, ◌⊎◌, ℕ, ◌+◌, ◌<◌, ◌≤◌, List, [], ◌++◌, length, drop}
use Rattle.hls_journal_log.specs.declared.ending.Ending.{Ending}
use Rattle.hls_journal_log.specs.declared.ending.Ending.TheVariants.{Complete, Torn, Corrupt}
use Rattle.hls_journal_log.specs.Records.{header_len, body_limit, record_bytes, log_bytes, AreWithinLimit, body_len_in, checksum_in, body_in, checksum}

-- the end of a header, or of the body that follows it, is missing
abbrev pub IsCutShort : List ℕ → Type 0
IsCutShort text = (length text < header_len) ⊎ ((body_len_in text ≤ body_limit) × (length text < header_len + body_len_in text))

-- a header whose body would be above the limit, or a body with another checksum
abbrev pub IsCorrupt : ℕ → List ℕ → Type 0
IsCorrupt number text =
    (header_len ≤ length text) × ((body_limit < body_len_in text) ⊎ ((header_len + body_len_in text ≤ length text) × (checksum_in text ≢ checksum number (body_in text))))

-- a text doesn't start with a record of this number, for this reason
abbrev pub Stops : ℕ → List ℕ → Ending → Type 0
Stops number text Complete = text ≡ []
Stops number text Torn = (0 < length text) × IsCutShort text
Stops number text Corrupt = IsCorrupt number text

-- a text is the record of this number that its header names, and what follows
abbrev pub IsRecordAndRest : ℕ → List ℕ → Type 0
IsRecordAndRest number text = record_bytes number (body_in text) ++ drop (header_len + body_len_in text) text ≡ text

-- a text is these records, followed by what is no record
pub record Reads (number : ℕ) (text : List ℕ) (bodies : List (List ℕ)) (ending : Ending) : Type 0 where
  pub rest : List ℕ
  pub is : text ≡ log_bytes number bodies ++ rest
  pub small : AreWithinLimit bodies
  pub stops : Stops (number + length bodies) rest ending
