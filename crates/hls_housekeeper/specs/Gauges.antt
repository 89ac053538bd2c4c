-- How near a resource is to its limit, and when it will reach it. Times are in milliseconds of one clock.
use Rattle.std.specs.Prelude.{ℕ, ◌-◌, ◌*◌, ◌/◌, ◌^◌, Bool, cond, nat_eq, nat_lt, nat_le, min, max, Option, Some, None}
use Rattle.hls_housekeeper.specs.declared.gauge.{Gauge.Gauge, LimitWarning.LimitWarning}

-- whether usage is at least this percentage of the limit
abbrev pub has_reached : ℕ → ℕ → ℕ → Bool
has_reached percent used limit = nat_le (limit * percent) (used * 100)

-- the highest of the levels 80, 90, 95 and 99 percent that usage has reached, or 0
abbrev pub usage_level : ℕ → ℕ → ℕ
usage_level used limit = cond (has_reached 99 used limit) 99 (cond (has_reached 95 used limit) 95 (cond (has_reached 90 used limit) 90 (cond (has_reached 80 used limit) 80 0)))

-- the time until the rest is used, at the rate of `gained` in `passed`
abbrev pub time_left_ms : ℕ → ℕ → ℕ → Option ℕ
time_left_ms remaining gained passed = cond (nat_eq gained 0) None (Some (min (remaining * passed / gained) (2 ^ 64 - 1)))

-- a gauge that has seen this usage: once the later mark is half an hour old, the rate is measured from it
abbrev pub gauge_with_usage : ℕ → ℕ → Gauge → Gauge
gauge_with_usage now used g = cond (nat_lt (now - g.next.at) 1800000) g (record { reported_level = g.reported_level; since = g.next; next = record { at = now; used = used } })

-- a gauge whose reported level is raised to this one, if it is lower
abbrev pub gauge_with_level : ℕ → Gauge → Gauge
gauge_with_level level g = record { reported_level = max level g.reported_level; since = g.since; next = g.next }

-- a warning for a level above the last one reported
abbrev pub limit_warning : ℕ → ℕ → ℕ → Gauge → Option LimitWarning
limit_warning used limit now g = cond (nat_le (usage_level used limit) g.reported_level) None
    (Some (record { level = usage_level used limit; left = time_left_ms (limit - used) (used - g.since.used) (now - g.since.at) }))
