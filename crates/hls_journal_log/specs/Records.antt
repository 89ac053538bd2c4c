-- The bytes of records.
use Rattle.std.specs.Prelude.{◌≡◌, ℕ, suc, ◌+◌, ◌≤◌, List, [], ◌∷◌, ◌++◌, length, take, drop, All}
use Rattle.byteorder.specs.Endian.{little_bytes, little_number}
use Rattle.hls_journal_log.specs.Checksum.{checksum_of}

-- the bytes before a body
abbrev pub header_len : ℕ
header_len = 12

-- the most bytes of a body
abbrev pub body_limit : ℕ
body_limit = 134217728

-- the checksum of a record, which covers its number
abbrev pub checksum : ℕ → List ℕ → List ℕ
checksum number body = little_bytes 8 (checksum_of number body)

-- a record: the body's length in four bytes, the checksum in eight, the body
abbrev pub record_bytes : ℕ → List ℕ → List ℕ
record_bytes number body = little_bytes 4 (length body) ++ checksum number body ++ body

-- consecutive records, by their bodies and the number of the first
abbrev pub log_bytes : ℕ → List (List ℕ) → List ℕ
log_bytes number [] = []
log_bytes number (body ∷ bodies) = record_bytes number body ++ log_bytes (suc number) bodies

-- each body is within the limit
abbrev pub AreWithinLimit : List (List ℕ) → Type 0
AreWithinLimit bodies = All (λ body. length body ≤ body_limit) bodies

-- the length of the body, in the header at the start of a text
abbrev pub body_len_in : List ℕ → ℕ
body_len_in text = little_number 4 text

-- the checksum in that header
abbrev pub checksum_in : List ℕ → List ℕ
checksum_in text = take 8 (drop 4 text)

-- the body that follows that header
abbrev pub body_in : List ℕ → List ℕ
body_in text = take (body_len_in text) (drop header_len text)

-- a text starts with a complete record of this number
pub record IsRecord (number : ℕ) (text : List ℕ) : Type 0 where
  pub small : body_len_in text ≤ body_limit
  pub complete : header_len + body_len_in text ≤ length text
  pub sum : checksum_in text ≡ checksum number (body_in text)
