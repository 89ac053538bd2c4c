-- A connection's recent activity, and when it is too slow. Times are milliseconds of one clock; the idle timeout is in seconds.
use Rattle.std.specs.Prelude.{ℕ, ◌+◌, ◌-◌, ◌*◌, ◌^◌, Bool, false, cond, ◌&&◌, ◌||◌, nat_lt, nat_le, min}
use Rattle.hls_event_loop.specs.declared.activity.ConnectionStage.TheVariants.{Idle, Head, Ingesting, Held, Discarding, Waiting, Writing, Responding, Lingering}
use Rattle.hls_event_loop.specs.declared.activity.{ConnectionStage.ConnectionStage, Activity.Activity}

-- the activity of a stage that begins now
abbrev pub activity_from : ConnectionStage → ℕ → Activity
activity_from stage now = record { stage = stage; since_ms = now; moved_ms = now; bytes = 0 }

-- the activity after bytes were received or sent
abbrev pub activity_with_bytes : ℕ → ℕ → Activity → Activity
activity_with_bytes bytes now activity = record { stage = activity.stage; since_ms = activity.since_ms; moved_ms = now; bytes = min (activity.bytes + bytes) (2 ^ 64 - 1) }

-- no byte has moved for the idle timeout
abbrev pub is_silent : ℕ → Activity → ℕ → Bool
is_silent idle_timeout_s activity now = nat_le (idle_timeout_s * 1000) (now - activity.moved_ms)

-- the byte count covers the idle timeout
abbrev pub is_measured : ℕ → Activity → ℕ → Bool
is_measured idle_timeout_s activity now = nat_le (idle_timeout_s * 1000) (now - activity.since_ms)

-- fewer than 1000 bytes per second, which is one per millisecond, for the idle timeout
abbrev pub is_slow : ℕ → Activity → ℕ → Bool
is_slow idle_timeout_s activity now = is_measured idle_timeout_s activity now && nat_lt activity.bytes (now - activity.since_ms)

-- the connection is too slow. Idle peers and encoders time out by silence alone; a head by its time, ten seconds or the idle timeout
-- if that is less; a discarded body and a response by their rate too. A body that is held never does, nor a
-- response that waits or is made. Input after the
-- last response is read for two seconds, or until a quarter of a second of silence
abbrev pub is_timed_out_in : ConnectionStage → ℕ → Activity → ℕ → Bool
is_timed_out_in Idle idle_timeout_s activity now = is_silent idle_timeout_s activity now
is_timed_out_in Head idle_timeout_s activity now = nat_le (min (idle_timeout_s * 1000) 10000) (now - activity.since_ms)
is_timed_out_in Ingesting idle_timeout_s activity now = is_silent idle_timeout_s activity now
is_timed_out_in Held idle_timeout_s activity now = false
is_timed_out_in Discarding idle_timeout_s activity now = is_silent idle_timeout_s activity now || is_slow idle_timeout_s activity now
is_timed_out_in Waiting idle_timeout_s activity now = false
is_timed_out_in Writing idle_timeout_s activity now = false
is_timed_out_in Responding idle_timeout_s activity now = is_silent idle_timeout_s activity now || is_slow idle_timeout_s activity now
is_timed_out_in Lingering idle_timeout_s activity now = nat_le 2000 (now - activity.since_ms) || nat_le 250 (now - activity.moved_ms)

-- a connection is too slow, by its stage
abbrev pub is_timed_out : ℕ → Activity → ℕ → Bool
is_timed_out idle_timeout_s activity now = is_timed_out_in activity.stage idle_timeout_s activity now

-- a byte count that covers the idle timeout restarts now
abbrev pub with_zeroed_bytes : ℕ → ℕ → Activity → Activity
with_zeroed_bytes idle_timeout_s now activity =
    cond (is_measured idle_timeout_s activity now) (record { stage = activity.stage; since_ms = now; moved_ms = activity.moved_ms; bytes = 0 }) activity

-- only stages with a minimum rate restart the byte count: a discarded body and a response
abbrev pub with_restarted_count_in : ConnectionStage → ℕ → ℕ → Activity → Activity
with_restarted_count_in Idle idle_timeout_s now activity = activity
with_restarted_count_in Head idle_timeout_s now activity = activity
with_restarted_count_in Ingesting idle_timeout_s now activity = activity
with_restarted_count_in Held idle_timeout_s now activity = activity
with_restarted_count_in Discarding idle_timeout_s now activity = with_zeroed_bytes idle_timeout_s now activity
with_restarted_count_in Waiting idle_timeout_s now activity = activity
with_restarted_count_in Writing idle_timeout_s now activity = activity
with_restarted_count_in Responding idle_timeout_s now activity = with_zeroed_bytes idle_timeout_s now activity
with_restarted_count_in Lingering idle_timeout_s now activity = activity

-- the activity with its byte count restarted, by its stage
abbrev pub with_restarted_count : ℕ → ℕ → Activity → Activity
with_restarted_count idle_timeout_s now activity = with_restarted_count_in activity.stage idle_timeout_s now activity
