-- The settings of a journal, in valid arguments.
use Rattle.std.specs.Prelude.{Bool, true, false, List, Option, Some, None, cond, codes, is_some, option_map, Result, Ok, Err}
use Rattle.std.specs.Str.{bytes_eq}
use Rattle.clap.specs.Words.{Text}
use Rattle.hls_settings.specs.Numbers.{number_or_default}
use Rattle.hls_settings.specs.FileArguments.{journal_argument, option_value}
use Rattle.hls_settings.specs.WrongArguments.{is_given}
use Rattle.hls_settings.specs.declared.journal_settings.SyncSetting.{SyncSetting}
use Rattle.hls_settings.specs.declared.journal_settings.SyncSetting.TheVariants as syncs
use Rattle.hls_settings.specs.declared.journal_settings.JournalSettings.{JournalSettings}
use Rattle.hls_settings.specs.declared.journal_settings.JournalOption.{JournalOption}
use Rattle.hls_settings.specs.declared.journal_settings.JournalOption.TheVariants as options
use Rattle.hls_settings.specs.declared.journal_settings.JournalSettingsFault.{JournalSettingsFault}
use Rattle.hls_settings.specs.declared.journal_settings.JournalSettingsFault.TheVariants as faults

-- how often the journal is synced: whenever this number of milliseconds has passed, from 1 to 60000, by default 1000
abbrev pub sync_every : Option Text → Option SyncSetting
sync_every text = option_map (λ ms. syncs.Every ms) (number_or_default 1 60000 1000 text)

-- when the journal is synced, by the text of `--sync`: never, before anything is reported as durable, or after some milliseconds
abbrev pub sync_of : Option Text → Option SyncSetting
sync_of None = sync_every None
sync_of (Some text) = cond (bytes_eq text (codes "never")) (Some syncs.Never) (cond (bytes_eq text (codes "each")) (Some syncs.Each) (sync_every (Some text)))

-- whether encoders are refused once the journal is lost, by the text of `--journal-lost`
abbrev pub lost_of : Option Text → Option Bool
lost_of None = Some false
lost_of (Some text) = cond (bytes_eq text (codes "go-on")) (Some false) (cond (bytes_eq text (codes "refuse")) (Some true) None)

-- the first given option that needs a journal, by whether `--sync`, `--journal-lost` and `--anew` are given
abbrev pub unneeded_option : Bool → Bool → Bool → Option JournalOption
unneeded_option true lost anew = Some options.Sync
unneeded_option false true anew = Some options.Lost
unneeded_option false false true = Some options.Anew
unneeded_option false false false = None

-- the settings of a journal with this rule for syncs, or the fault of `--journal-lost`
abbrev pub settings_with : SyncSetting → Option Bool → Bool → Result JournalSettings JournalSettingsFault
settings_with sync None anew = Err faults.Lost
settings_with sync (Some refuses) anew = Ok (record { sync = sync; refuses_if_lost = refuses; begins_anew = anew })

-- the settings of a journal, or the first fault: that of `--sync`, then that of `--journal-lost`
abbrev pub settings_after : Option SyncSetting → Option Bool → Bool → Result JournalSettings JournalSettingsFault
settings_after None lost anew = Err faults.Sync
settings_after (Some sync) lost anew = settings_with sync lost anew

-- an option without a journal is the first fault
abbrev pub unless_unneeded : Option JournalOption → Result JournalSettings JournalSettingsFault → Result JournalSettings JournalSettingsFault
unless_unneeded None settings = settings
unless_unneeded (Some option) settings = Err (faults.NoJournal option)

-- the settings of a journal, by the texts of `--journal`, `--sync` and `--journal-lost`, and whether `--anew` is given
abbrev pub settings_from : Option Text → Option Text → Option Text → Bool → Result JournalSettings JournalSettingsFault
settings_from None sync lost anew = unless_unneeded (unneeded_option (is_some sync) (is_some lost) anew) (settings_after (sync_of sync) (lost_of lost) anew)
settings_from (Some folder) sync lost anew = settings_after (sync_of sync) (lost_of lost) anew

-- the settings of a journal that the arguments specify, or the first fault
abbrev pub journal_settings_of : List Text → Result JournalSettings JournalSettingsFault
journal_settings_of arguments =
    settings_from (journal_argument arguments) (option_value (codes "--sync") arguments) (option_value (codes "--journal-lost") arguments) (is_given arguments (codes "--anew"))
