-- How much memory the settings need.
use Rattle.std.specs.Prelude.{ℕ, ◌+◌, ◌-◌, ◌*◌, ◌/◌, ◌^◌, min, List, sum_by}
use Rattle.hls_core_laws.specs.declared.rendition.Rendition.{Rendition}
use Rattle.hls_settings.specs.declared.window_settings.WindowSettings.{WindowSettings}
use Rattle.hls_housekeeper.specs.Backoff.{backoff_ms}

-- How long media are kept, in microseconds; a backoff is in milliseconds, and the target duration in seconds. The kept time holds the
-- window. Live playlists may reach further back, by their oldest segment and by what no segment has yet.
abbrev pub retained_us : WindowSettings → ℕ
retained_us t = t.keep + min t.window (t.target * 5000000) + (t.target * 2000000 + backoff_ms t.keep * 1000)

-- the bit rate that a rendition declares, in bits per second
abbrev pub bits_of_one : Rendition → ℕ
bits_of_one r = r.bandwidth

-- the sum of the bit rates that renditions declare, capped at 2^48
abbrev pub bits_of : List Rendition → ℕ
bits_of rs = min (sum_by bits_of_one rs) (2 ^ 48)

-- bytes, from bits per second and microseconds
abbrev pub media_bytes_needed : ℕ → WindowSettings → ℕ
media_bytes_needed bits t = min (bits * retained_us t / 8000000) (2 ^ 64 - 1)
