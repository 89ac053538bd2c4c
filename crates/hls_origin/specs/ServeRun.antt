-- How `serve` may end, given its arguments.
use Rattle.std.specs.Prelude.{◌≡◌, ◌≢◌, List, [], Some, Ok, Err}
use Rattle.clap.specs.Words.{Text}
use Rattle.hls_settings.specs.ReadSettings.{ReadsSettings}
use Rattle.hls_settings.specs.declared.fault.SettingsFault.TheVariants as faults
use Rattle.hls_settings.specs.FileArguments.{journal_argument}
use Rattle.hls_settings.specs.JournalSettings.{journal_settings_of}
use Rattle.hls_settings.specs.declared.journal_settings.JournalSettings.{JournalSettings}
use Rattle.hls_settings.specs.declared.settings.Settings.{Settings}
use Rattle.hls_origin.specs.declared.serve.run.ServeEnd.{ServeEnd}
use Rattle.hls_origin.specs.declared.serve.run.ServeEnd.TheVariants.{Done, Usage, Base, Journal, NoFolder, OtherJournal, JournalFailed, BindFailed, Memory}

-- arguments that specify settings
abbrev pub AreSettings : List Text → Type 0
AreSettings arguments = (settings : Settings) × ReadsSettings arguments (Ok settings)

-- arguments that specify settings and valid options of a journal
abbrev pub HasJournal : List Text → Type 0
HasJournal arguments = AreSettings arguments × (journal : JournalSettings) × (journal_settings_of arguments ≡ Ok journal)

-- `serve` may end like this once the channel has a state
abbrev pub IsServed : ServeEnd → Type 0
IsServed Done = Unit {0}
IsServed BindFailed = Unit {0}
IsServed Memory = Unit {0}
IsServed end = ⊥

-- how `serve` may end: a usage fault reports the first invalid argument; any other end but `Memory` comes only if the arguments are valid, and
-- the three that concern a journal's folder only if its options are valid too
abbrev pub EndsServe : List Text → ServeEnd → Type 0
EndsServe arguments Done = AreSettings arguments
EndsServe arguments BindFailed = AreSettings arguments
EndsServe arguments (Base fault) = AreSettings arguments
EndsServe arguments (Journal fault) = AreSettings arguments × (journal_settings_of arguments ≡ Err fault)
EndsServe arguments NoFolder = HasJournal arguments × (journal_argument arguments ≡ Some [])
EndsServe arguments OtherJournal = HasJournal arguments
EndsServe arguments JournalFailed = HasJournal arguments
EndsServe arguments (Usage fault) = ReadsSettings arguments (Err fault) × (fault ≢ faults.Memory)
EndsServe arguments Memory = Unit {0}
