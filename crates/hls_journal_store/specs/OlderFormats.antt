-- Logs in an older format.
use Rattle.std.specs.Prelude.{◌≡◌, ℕ, ◌<◌, ◌≤◌, List, length, drop, get_or}
use Rattle.byteorder.specs.Endian.{little_number}

-- the version in the first record of a log
abbrev pub version_at_front : List ℕ → ℕ
version_at_front text = little_number 2 (drop 13 text)

-- a log begins with the record of a channel in an older format than the second
abbrev pub IsOlder : List ℕ → Type 0
IsOlder text = (15 ≤ length text) × (get_or text 12 0 ≡ 0) × (0 < version_at_front text) × (version_at_front text < 2)
