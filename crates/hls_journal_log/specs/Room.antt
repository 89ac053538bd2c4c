-- When a log takes more records.
use Rattle.std.specs.Prelude.{ℕ, ◌<◌, ◌^◌, List}
use Rattle.hls_journal_log.specs.Records.{AreWithinLimit}

-- a log of these bytes, whose next record has this number, takes these bodies
abbrev pub HasRoom : ℕ → ℕ → List (List ℕ) → Type 0
HasRoom end next bodies = (end < 2 ^ 62) × (next < 2 ^ 62) × AreWithinLimit bodies
