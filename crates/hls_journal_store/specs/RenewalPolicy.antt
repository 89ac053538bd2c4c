-- When a channel begins a new log. A log that would be more than half as long as the old one isn't begun.
use Rattle.std.specs.Prelude.{ℕ, ◌-◌, ◌/◌, nat_le, Bool, ◌&&◌, ◌||◌}
use Rattle.hls_media_laws.specs.FactLists.{recording_limit}
use Rattle.hls_core_laws.specs.State.{log_limit}
use Rattle.hls_journal_store.specs.declared.renewal_policy.LogUse.{LogUse}
use Rattle.hls_journal_store.specs.declared.renewal_policy.RenewalGate.{RenewalGate}

-- it has this length or more, and at most half of it is kept
abbrev pub has_shrunk : ℕ → LogUse → Bool
has_shrunk long u = nat_le long u.whole && nat_le u.kept (u.whole / 2)

-- three quarters of this limit are used, and at most half of that must stay
abbrev pub is_full : ℕ → LogUse → Bool
is_full limit u = nat_le (limit - limit / 4) u.whole && nat_le u.least (u.whole / 2)

-- a log is replaced: it has a sixteenth of its limit or more, and at most half of it is kept; or it is nearly full
abbrev pub is_log_due : LogUse → Bool
is_log_due u = has_shrunk (log_limit / 16) u || is_full log_limit u

-- a log is replaced because of a recording, which has half of its limit or more, and at most half of it is kept; or is nearly full
abbrev pub is_recording_due : LogUse → Bool
is_recording_due u = has_shrunk (recording_limit / 2) u || is_full recording_limit u

-- a channel may begin a new log: its log has grown enough since the last one, and enough time has passed
abbrev pub may_begin : RenewalGate → ℕ → ℕ → Bool
may_begin gate entries now = nat_le gate.entries entries && nat_le gate.at_ms now
