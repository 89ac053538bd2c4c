-- Sync points: records that say how far the log was synced before them.
use Rattle.std.specs.Prelude.{◌≡◌, ℕ, ◌+◌, ◌<◌, ◌≤◌, List, [], ◌∷◌, ◌++◌, length, take, drop}
use Rattle.byteorder.specs.Endian.{little_bytes, little_number}
use Rattle.hls_journal_log.specs.Records.{header_len, body_len_in, checksum_in, checksum}

-- the kind of a sync point, and the letters `hlssync`
abbrev pub sync_mark : List ℕ
sync_mark = 7 ∷ 104 ∷ 108 ∷ 115 ∷ 115 ∷ 121 ∷ 110 ∷ 99 ∷ []

-- the body of the sync point of a number: the log was synced up to the byte `synced`
abbrev pub sync_point_body : ℕ → ℕ → List ℕ
sync_point_body number synced = sync_mark ++ little_bytes 8 number ++ little_bytes 8 synced

-- the length of a sync point's body in bytes
abbrev pub sync_point_len : ℕ
sync_point_len = 24

-- the number of the sync point at the start of a text
abbrev pub number_in : List ℕ → ℕ
number_in text = little_number 8 (drop 20 text)

-- how many bytes of the log were synced, by the sync point at the start of a text
abbrev pub synced_in : List ℕ → ℕ
synced_in text = little_number 8 (drop 28 text)

-- a text starts with a sync point; it has its own number, so it is recognized at any place
pub record IsSyncPoint (text : List ℕ) : Type 0 where
  pub complete : header_len + sync_point_len ≤ length text
  pub len : body_len_in text ≡ sync_point_len
  pub mark : take 8 (drop 12 text) ≡ sync_mark
  pub sum : checksum_in text ≡ checksum (number_in text) (take sync_point_len (drop header_len text))

-- somewhere in a text is a sync point that names a byte after this place
abbrev pub HasSyncPointBeyond : ℕ → List ℕ → Type 0
HasSyncPointBeyond place text = (k : ℕ) × IsSyncPoint (drop k text) × (place < synced_in (drop k text))
