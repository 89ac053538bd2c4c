-- The arguments after `serve` as `clap` parses them: options with a value each, an address, and the renditions.
use Rattle.std.specs.Prelude.{List, Some, Option, true, codes, option_map, Result}
use Rattle.clap.specs.Words.{App, Row, Rule, Text, all_of, first_of, first_value, matched_of, new_app, new_rule, raw_values, with_rule}
use Rattle.clap.specs.declared.parser.matches.Found.{Found}
use Rattle.clap.specs.declared.builder.action.ArgAction.TheVariants.{Append}
use Rattle.hls_settings.specs.Settings.{Texts, mending_of, timing_of, workers_of}
use Rattle.hls_settings.specs.Flags.{flag_rule}
use Rattle.hls_mend_laws.specs.declared.settings.MendSettings.{MendSettings}
use Rattle.hls_settings.specs.declared.fault.SettingsFault.{SettingsFault}
use Rattle.hls_settings.specs.declared.window_settings.WindowSettings.{WindowSettings}
use Rattle.hls_settings.specs.declared.thread_settings.ThreadSettings.{ThreadSettings}

-- an option with a value, by its long name
abbrev pub value_rule : Text → Rule
value_rule name = record (new_rule name) { long = Some name }

-- consecutive positional arguments
abbrev pub words_rule : Text → Rule
words_rule name = record (new_rule name) { action = Some Append }

-- a command whose arguments don't begin with the program's own name
abbrev pub without_name : App → App
without_name app = record app { top = record app.top { no_binary_name = true } }

-- the command `serve` without options
abbrev pub named_app : App
named_app = without_name (new_app (codes "serve"))

-- the command with the options of the durations
unfoldable pub timing_app : App
timing_app = with_rule (with_rule (with_rule (with_rule (with_rule named_app (value_rule (codes "target"))) (value_rule (codes "preferred"))) (value_rule (codes "window"))) (value_rule (codes "keep"))) (value_rule (codes "live"))

-- the command with the options of the durations and the epoch
unfoldable pub channel_app : App
channel_app = with_rule timing_app (value_rule (codes "epoch"))

-- the command with those of the threads, the log, the run and the base as well
unfoldable pub server_app : App
server_app = with_rule (with_rule (with_rule (with_rule (with_rule (with_rule (with_rule channel_app (value_rule (codes "workers"))) (value_rule (codes "connections"))) (value_rule (codes "planners"))) (value_rule (codes "patience"))) (value_rule (codes "log"))) (value_rule (codes "run"))) (value_rule (codes "base"))

-- the command with those of mending, of the life of jobs and of the rate of units as well
unfoldable pub options_app : App
options_app = with_rule (with_rule (with_rule (with_rule (with_rule (with_rule server_app (flag_rule (codes "mend"))) (value_rule (codes "snap"))) (value_rule (codes "fill"))) (value_rule (codes "wait"))) (value_rule (codes "job-life"))) (value_rule (codes "unit-rate"))

-- the command with those of the journal as well
unfoldable pub journal_app : App
journal_app = with_rule (with_rule (with_rule (with_rule options_app (value_rule (codes "journal"))) (value_rule (codes "sync"))) (value_rule (codes "journal-lost"))) (flag_rule (codes "anew"))

-- the whole command `serve`: the options, then the address, then the renditions
unfoldable pub serve_app : App
serve_app = with_rule (with_rule journal_app (new_rule (codes "address"))) (words_rule (codes "renditions"))

-- the texts of the arguments among the matches of `clap`
abbrev pub texts_in : Found → Texts
texts_in found = record {
  target = first_value found (codes "target");
  preferred = first_value found (codes "preferred");
  window = first_value found (codes "window");
  keep = first_value found (codes "keep");
  live = first_value found (codes "live");
  epoch = first_value found (codes "epoch");
  workers = first_value found (codes "workers");
  connections = first_value found (codes "connections");
  planners = first_value found (codes "planners");
  idle_timeout_s = first_value found (codes "patience");
  log = first_value found (codes "log");
  run = first_value found (codes "run");
  mend = first_value found (codes "mend");
  snap = first_value found (codes "snap");
  fill = first_value found (codes "fill");
  wait = first_value found (codes "wait");
  job_life = first_value found (codes "job-life");
  unit_rate = first_value found (codes "unit-rate");
  address = first_value found (codes "address");
  renditions = option_map raw_values (matched_of found (codes "renditions"));
}

-- the durations among the matches, or their first fault. For the code alone
abbrev pub timing_found : Found → Result WindowSettings SettingsFault
timing_found found =
    timing_of (first_value found (codes "target")) (first_value found (codes "preferred")) (first_value found (codes "window")) (first_value found (codes "keep"))
    (first_value found (codes "live"))

-- the threads among the matches, or their first fault. For the code alone
abbrev pub workers_found : Found → Result ThreadSettings SettingsFault
workers_found found =
    workers_of (first_value found (codes "workers")) (first_value found (codes "connections")) (first_value found (codes "planners")) (first_value found (codes "patience"))

-- how far units are mended, by the matches, or the first fault. For the code alone
abbrev pub mending_found : Found → Result (Option MendSettings) SettingsFault
mending_found found = mending_of (first_value found (codes "mend")) (first_value found (codes "snap")) (first_value found (codes "fill")) (first_value found (codes "wait"))

-- the texts of the arguments, by the rows that `clap` makes of them
abbrev pub texts_of : List Row → Texts
texts_of rows = record {
  target = first_of (codes "target") rows;
  preferred = first_of (codes "preferred") rows;
  window = first_of (codes "window") rows;
  keep = first_of (codes "keep") rows;
  live = first_of (codes "live") rows;
  epoch = first_of (codes "epoch") rows;
  workers = first_of (codes "workers") rows;
  connections = first_of (codes "connections") rows;
  planners = first_of (codes "planners") rows;
  idle_timeout_s = first_of (codes "patience") rows;
  log = first_of (codes "log") rows;
  run = first_of (codes "run") rows;
  mend = first_of (codes "mend") rows;
  snap = first_of (codes "snap") rows;
  fill = first_of (codes "fill") rows;
  wait = first_of (codes "wait") rows;
  job_life = first_of (codes "job-life") rows;
  unit_rate = first_of (codes "unit-rate") rows;
  address = first_of (codes "address") rows;
  renditions = all_of (codes "renditions") rows;
}
