-- When an alert on a condition that may last is raised, repeated and cleared.
use Rattle.std.specs.Prelude.{ℕ, ◌-◌, Bool, true, false, not, cond, ◌&&◌, ◌||◌, nat_eq, nat_le}
use Rattle.hls_housekeeper.specs.declared.alert.{Alert.Alert, AlertChange.{AlertChange, TheVariants.{Unchanged, Raised, Cleared}}}

-- the condition holds: an alert is due where none was logged for a minute, and, where it has held since, only if repeats are wanted
abbrev pub is_alert_due : Bool → ℕ → Alert → Bool
is_alert_due again now alert = (not alert.raised || again) && (nat_eq alert.raised_at_ms 0 || nat_le 60000 (now - alert.raised_at_ms))

-- what is logged once the condition is found to hold or not: an alert, that it is cleared, or nothing
abbrev pub alert_change : Bool → Bool → ℕ → Alert → AlertChange
alert_change true again now alert = cond (is_alert_due again now alert) Raised Unchanged
alert_change false again now alert = cond alert.raised Cleared Unchanged

-- the alert once the condition was found to hold or not
abbrev pub alert_after : Bool → Bool → ℕ → Alert → Alert
alert_after true again now alert = cond (is_alert_due again now alert) (record { raised = true; raised_at_ms = now }) alert
alert_after false again now alert = record { raised = false; raised_at_ms = alert.raised_at_ms }
