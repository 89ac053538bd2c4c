-- The settings of `serve` from its arguments, or the first invalid one.
use Rattle.hls_mend_laws.specs.declared.settings.MendSettings.{MendSettings}
use Rattle.hls_settings.specs.Flags.{is_set}
use Rattle.std.specs.Prelude.{ℕ, ◌*◌, List, Option, Some, None, Bool, true, false, ◌&&◌, ◌||◌, is_some, option_and_then, unwrap_or, cond, codes, Result, Ok, Err}
use Rattle.std.specs.Prelude.{ℤ, option_map, pos, int_le}
use Rattle.std.specs.Borrow.{Bor}
use Rattle.std.specs.Str.{bytes_eq}
use Rattle.clap.specs.Words.{Text}
use Rattle.hls_instants.specs.Instants.{instant_of}
use Rattle.hls_core_laws.specs.Base.{run_field}
use Rattle.hls_core_laws.specs.Config.{last_epoch}
use Rattle.hls_settings.specs.declared.listen_address.ListenAddress.{ListenAddress}
use Rattle.hls_settings.specs.declared.fault.SettingsFault.{SettingsFault}
use Rattle.hls_settings.specs.declared.fault.SettingsFault.TheVariants as faults
use Rattle.hls_settings.specs.declared.server_settings.ServerSettings.{ServerSettings}
use Rattle.hls_settings.specs.declared.window_settings.WindowSettings.{WindowSettings}
use Rattle.hls_settings.specs.declared.thread_settings.ThreadSettings.{ThreadSettings}
use Rattle.hls_settings.specs.Addresses.{address_of}
use Rattle.hls_settings.specs.Numbers.{number_or_default, optional_number}

-- an argument, if it is given
abbrev pub text_of : Option (Bor Text) → Option Text
text_of argument = option_map (λ (t : Bor Text). t.now) argument

-- the greatest number of 16 digits
abbrev pub most_number : ℕ
most_number = 9999999999999999

-- three target durations, given in seconds, in microseconds
abbrev pub three_targets : ℕ → ℕ
three_targets target = target * 3000000

-- ---- durations

-- the length of the window by `--window` and `--live`: where `--live` alone is given, the window has no length of its own, and is all that
-- is kept
abbrev pub window_in : ℕ → Option Text → Option Text → Option (Option ℕ)
window_in target None (Some live) = Some None
window_in target None None = option_map Some (number_or_default (three_targets target) most_number 30000000 None)
window_in target (Some text) live = option_map Some (number_or_default (three_targets target) most_number 30000000 (Some text))

-- the durations, given how much the live playlists by paths show: from three target durations to the window, or all of it
abbrev pub timing_showing : ℕ → ℕ → ℕ → ℕ → Option (Option ℕ) → Result WindowSettings SettingsFault
timing_showing target preferred window keep None = Err faults.Live
timing_showing target preferred window keep (Some shown) =
    Ok (record { target = target; preferred = preferred; window = window; keep = keep; shown_us = shown })

-- the durations, or the fault of `--live`
abbrev pub timing_kept : ℕ → ℕ → ℕ → ℕ → Option Text → Result WindowSettings SettingsFault
timing_kept target preferred window keep live = timing_showing target preferred window keep (optional_number (three_targets target) window live)

-- the durations, by the length of the window, or what is kept if it has none of its own, or the first fault of `--keep` and `--live`
abbrev pub timing_with : ℕ → ℕ → Option ℕ → Option ℕ → Option Text → Result WindowSettings SettingsFault
timing_with target preferred window None live = Err faults.Keep
timing_with target preferred window (Some keep) live = timing_kept target preferred (unwrap_or window keep) keep live

-- the durations, or the first fault of `--window` and those after it
abbrev pub timing_after : ℕ → ℕ → Option (Option ℕ) → Option Text → Option Text → Result WindowSettings SettingsFault
timing_after target preferred None keep live = Err faults.Window
timing_after target preferred (Some window) keep live =
    timing_with target preferred window (number_or_default (unwrap_or window (three_targets target)) most_number 3600000000 keep) live

-- the durations, or the first fault of `--preferred` and those after it
abbrev pub timing_by : ℕ → Option ℕ → Option Text → Option Text → Option Text → Result WindowSettings SettingsFault
timing_by target None window keep live = Err faults.Preferred
timing_by target (Some preferred) window keep live =
    timing_after target preferred (window_in target window live) keep live

-- the durations, or the first fault of `--target` and those after it
abbrev pub timing_in : Option ℕ → Option Text → Option Text → Option Text → Option Text → Result WindowSettings SettingsFault
timing_in None preferred window keep live = Err faults.Target
timing_in (Some target) preferred window keep live = timing_by target (number_or_default 1 (target * 1000000) 4000000 preferred) window keep live

-- the durations, by the texts of `--target`, `--preferred`, `--window`, `--keep` and `--live`, or the first fault
abbrev pub timing_of : Option Text → Option Text → Option Text → Option Text → Option Text → Result WindowSettings SettingsFault
timing_of target preferred window keep live = timing_in (number_or_default 1 3600 6 target) preferred window keep live

-- ---- the epoch

-- an epoch in microseconds, if it is from 1970 to the last one
abbrev pub epoch_within : ℤ → Option (Option ℤ)
epoch_within us = cond (int_le (pos 0) us && int_le us last_epoch) (Some (Some us)) None

-- the epoch by the text of `--epoch`, if it is given
abbrev pub epoch_in : Option Text → Option (Option ℤ)
epoch_in None = Some None
epoch_in (Some text) = option_and_then epoch_within (instant_of text)

-- ---- threads

-- the threads and their limits, or the fault of `--patience`
abbrev pub workers_with : ℕ → ℕ → ℕ → Option ℕ → Result ThreadSettings SettingsFault
workers_with workers connections planners None = Err faults.Patience
workers_with workers connections planners (Some idle_timeout_s) =
    Ok (record { workers = workers; connections = connections; planners = planners; idle_timeout_s = idle_timeout_s })

-- the threads and their limits, or the first fault of `--planners` and `--patience`
abbrev pub workers_after : ℕ → ℕ → Option ℕ → Option Text → Result ThreadSettings SettingsFault
workers_after workers connections None idle_timeout_s = Err faults.Planners
workers_after workers connections (Some planners) idle_timeout_s = workers_with workers connections planners (number_or_default 1 3600 30 idle_timeout_s)

-- the threads and their limits, or the first fault of `--connections` and those after it
abbrev pub workers_by : ℕ → Option ℕ → Option Text → Option Text → Result ThreadSettings SettingsFault
workers_by workers None planners idle_timeout_s = Err faults.Connections
workers_by workers (Some connections) planners idle_timeout_s = workers_after workers connections (number_or_default 1 16 2 planners) idle_timeout_s

-- the threads and their limits, or the first fault of `--workers` and those after it
abbrev pub workers_in : Option ℕ → Option Text → Option Text → Option Text → Result ThreadSettings SettingsFault
workers_in None connections planners idle_timeout_s = Err faults.Workers
workers_in (Some workers) connections planners idle_timeout_s = workers_by workers (number_or_default 16 1000000 4096 connections) planners idle_timeout_s

-- the threads and their limits, by the texts of `--workers`, `--connections`, `--planners` and `--patience`, or the first fault
abbrev pub workers_of : Option Text → Option Text → Option Text → Option Text → Result ThreadSettings SettingsFault
workers_of workers connections planners idle_timeout_s = workers_in (number_or_default 1 63 8 workers) connections planners idle_timeout_s

-- ---- everything except the renditions

-- the values of the options, and the positional arguments
pub record Texts : Type 0 where
  pub target : Option Text
  pub preferred : Option Text
  pub window : Option Text
  pub keep : Option Text
  pub live : Option Text
  pub epoch : Option Text
  pub workers : Option Text
  pub connections : Option Text
  pub planners : Option Text
  pub idle_timeout_s : Option Text
  pub log : Option Text
  pub run : Option Text
  pub mend : Option Text
  pub snap : Option Text
  pub fill : Option Text
  pub wait : Option Text
  pub job_life : Option Text
  pub unit_rate : Option Text
  pub address : Option Text
  pub renditions : Option (List Text)

-- whether requests are logged
abbrev pub log_of : Option Text → Option Bool
log_of None = Some false
log_of (Some text) = cond (bytes_eq text (codes "requests")) (Some true) None

-- the address that the first positional argument specifies
abbrev pub address_in : Option Text → Option ListenAddress
address_in None = None
address_in (Some text) = address_of text

-- the name of the run, if one is given
abbrev pub run_of : Option Text → Option (Option (List ℕ))
run_of None = Some None
run_of (Some text) = option_map (λ field. Some field) (run_field text)

-- how far units are mended, if they are, or a fault: of `--fill`, or of an option that needs `--mend`
abbrev pub mending_with : Bool → Bool → ℕ → Option ℕ → Result (Option MendSettings) SettingsFault
mending_with mends given snap None = Err faults.Fill
mending_with true given snap (Some fill) = Ok (Some (record { snap_us = snap; fill_us = fill }))
mending_with false true snap (Some fill) = Err faults.Unmended
mending_with false false snap (Some fill) = Ok None

-- how far units are mended, or the first fault of `--snap` and those after it
abbrev pub mending_by : Bool → Bool → Option ℕ → Option Text → Result (Option MendSettings) SettingsFault
mending_by mends given None fill = Err faults.Snap
mending_by mends given (Some snap) fill = mending_with mends given snap (number_or_default 0 3600000000 10000000 fill)

-- How far units are mended, by the texts of `--mend`, `--snap`, `--fill` and `--wait`. The last three need the first; the
-- numbers are in microseconds.
abbrev pub mending_of : Option Text → Option Text → Option Text → Option Text → Result (Option MendSettings) SettingsFault
mending_of mend snap fill wait =
    mending_by (is_set mend) (is_some snap || (is_some fill || is_some wait)) (number_or_default 0 250000 5000 snap) fill

-- after how many seconds without a unit from its encoder a rendition is filled
abbrev pub wait_of : Option Text → Option ℕ
wait_of text = number_or_default 1 3600 5 text

-- after how many seconds without a use a job is removed, if it is
abbrev pub job_life_of : Option Text → Option (Option ℕ)
job_life_of text = optional_number 1 86400 text

-- how many units a second a rendition may get; 500 if it isn't given
abbrev pub unit_rate_of : Option Text → Option ℕ
unit_rate_of text = number_or_default 0 1000000 500 text

-- the settings of a server, or the fault of its address
abbrev pub server_with : WindowSettings → Option ℤ → ThreadSettings → Bool → Option (List ℕ) → Option MendSettings → ℕ → Option ℕ → ℕ → Option ListenAddress → Result ServerSettings SettingsFault
server_with timing epoch workers logs run mending wait life rate None = Err faults.Address
server_with timing epoch workers logs run mending wait life rate (Some address) =
    Ok (record { timing = timing; epoch = epoch; workers = workers; logs_requests = logs; run = run; mending = mending; wait_s = wait; job_life_s = life; unit_rate = rate; address = address })

-- the settings of a server, or the first fault of `--unit-rate` and the address
abbrev pub server_rated : WindowSettings → Option ℤ → ThreadSettings → Bool → Option (List ℕ) → Option MendSettings → ℕ → Option ℕ → Option ℕ → Option Text → Result ServerSettings SettingsFault
server_rated timing epoch workers logs run mending wait life None address = Err faults.UnitRate
server_rated timing epoch workers logs run mending wait life (Some rate) address = server_with timing epoch workers logs run mending wait life rate (address_in address)

-- the settings of a server, or the first fault of `--job-life` and what is decided after it
abbrev pub server_living : WindowSettings → Option ℤ → ThreadSettings → Bool → Option (List ℕ) → Option MendSettings → ℕ → Option (Option ℕ) → Texts → Result ServerSettings SettingsFault
server_living timing epoch workers logs run mending wait None t = Err faults.JobLife
server_living timing epoch workers logs run mending wait (Some life) t = server_rated timing epoch workers logs run mending wait life (unit_rate_of t.unit_rate) t.address

-- the settings of a server, or the first fault of `--wait` and what is decided after it
abbrev pub server_waiting : WindowSettings → Option ℤ → ThreadSettings → Bool → Option (List ℕ) → Option MendSettings → Option ℕ → Texts → Result ServerSettings SettingsFault
server_waiting timing epoch workers logs run mending None t = Err faults.Wait
server_waiting timing epoch workers logs run mending (Some wait) t = server_living timing epoch workers logs run mending wait (job_life_of t.job_life) t

-- the settings of a server, or the first fault of mending and what is decided after it
abbrev pub server_mending : WindowSettings → Option ℤ → ThreadSettings → Bool → Option (List ℕ) → Result (Option MendSettings) SettingsFault → Texts → Result ServerSettings SettingsFault
server_mending timing epoch workers logs run (Err fault) t = Err fault
server_mending timing epoch workers logs run (Ok mending) t = server_waiting timing epoch workers logs run mending (wait_of t.wait) t

-- the settings of a server, or the first fault of `--run` and what is decided after it
abbrev pub server_named : WindowSettings → Option ℤ → ThreadSettings → Bool → Option (Option (List ℕ)) → Texts → Result ServerSettings SettingsFault
server_named timing epoch workers logs None t = Err faults.Run
server_named timing epoch workers logs (Some run) t = server_mending timing epoch workers logs run (mending_of t.mend t.snap t.fill t.wait) t

-- the settings of a server, or the first fault of `--log` and what is decided after it
abbrev pub server_after : WindowSettings → Option ℤ → ThreadSettings → Option Bool → Texts → Result ServerSettings SettingsFault
server_after timing epoch workers None t = Err faults.Log
server_after timing epoch workers (Some logs) t = server_named timing epoch workers logs (run_of t.run) t

-- the settings of a server, or the first fault of the threads and what is decided after them
abbrev pub server_by : WindowSettings → Option ℤ → Result ThreadSettings SettingsFault → Texts → Result ServerSettings SettingsFault
server_by timing epoch (Err fault) t = Err fault
server_by timing epoch (Ok workers) t = server_after timing epoch workers (log_of t.log) t

-- the settings of a server, or the first fault of `--epoch` and what is decided after it
abbrev pub server_from : WindowSettings → Option (Option ℤ) → Texts → Result ServerSettings SettingsFault
server_from timing None t = Err faults.Epoch
server_from timing (Some epoch) t = server_by timing epoch (workers_of t.workers t.connections t.planners t.idle_timeout_s) t

-- the settings of a server, or the first fault of the durations and what is decided after them
abbrev pub server_in : Result WindowSettings SettingsFault → Texts → Result ServerSettings SettingsFault
server_in (Err fault) t = Err fault
server_in (Ok timing) t = server_from timing (epoch_in t.epoch) t

-- the settings of a server by the texts of its arguments, except for the renditions, or the first fault
abbrev pub server_settings_of : Texts → Result ServerSettings SettingsFault
server_settings_of t = server_in (timing_of t.target t.preferred t.window t.keep t.live) t
