-- How long the housekeeper backs off from trims.
use Rattle.std.specs.Prelude.{ℕ, ◌+◌, ◌-◌, ◌*◌, ◌/◌, ◌^◌, min}
use Rattle.hls_housekeeper.specs.declared.trim_backoff.TrimBackoff.{TrimBackoff}

-- in milliseconds: ten seconds, or a 360th of the kept time in microseconds if that is less
abbrev pub backoff_ms : ℕ → ℕ
backoff_ms keep = min (keep / 360000) 10000

-- until when trims wait: on the clock in milliseconds, and in the channel's time in microseconds
abbrev pub backoff_after : ℕ → ℕ → ℕ → TrimBackoff
backoff_after keep now time = record {
  clock = min (now + backoff_ms keep) (2 ^ 64 - 1);
  channel = min (time + backoff_ms keep * 1000) (2 ^ 64 - 1);
}
