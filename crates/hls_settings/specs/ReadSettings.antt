-- The result of reading the arguments after `serve`.
use Rattle.hls_mend_laws.specs.declared.settings.MendSettings.{MendSettings}
use Rattle.std.specs.Prelude.{◌≡◌, ◌⊎◌, ℕ, ℤ, ◌*◌, max, List, [], ◌∷◌, map, take, slice_get, true, Option, Some, None, Result, Ok, Err, Vec}
use Rattle.std.specs.declared.alloc.Global.{Global}
use Rattle.clap.specs.Words.{Text, fault_of, found_of, matches_of}
use Rattle.clap.specs.declared.parser.matches.ArgMatches.{ArgMatches}
use Rattle.clap.specs.Kinds.{Kinds}
use Rattle.clap.specs.declared.error.kind.ErrorKind.{ErrorKind}
use Rattle.clap.specs.declared.error.kind.ErrorKind.TheVariants as kinds
use Rattle.hls_core_laws.specs.declared.rendition.Rendition.{Rendition}
use Rattle.hls_core_laws.specs.Config.{IsConfig}
use Rattle.hls_core.specs.declared.config.Config.{Config}
use Rattle.hls_core.specs.Configures.{configured_from}
use Rattle.hls_core.specs.FirstBad.{IsFirstBadRendition}
use Rattle.hls_settings.specs.declared.fault.SettingsFault.{SettingsFault}
use Rattle.hls_settings.specs.declared.fault.SettingsFault.TheVariants as faults
use Rattle.hls_settings.specs.declared.server_settings.ServerSettings.{ServerSettings}
use Rattle.hls_settings.specs.declared.window_settings.WindowSettings.{WindowSettings}
use Rattle.hls_settings.specs.declared.settings.Settings.{Settings}
use Rattle.hls_settings.specs.Command.{serve_app, texts_in, texts_of}
use Rattle.hls_settings.specs.Renditions.{rendition_of}
use Rattle.hls_settings.specs.Settings.{Texts, server_settings_of}
use Rattle.hls_settings.specs.WrongArguments.{serve_options, wrong_argument}
use Rattle.hls_settings.specs.declared.wrong_argument.WrongArgument.{WrongArgument}

-- the arguments of renditions; none if there is no such argument
abbrev pub rendition_arguments : Option (List Text) → List Text
rendition_arguments None = []
rendition_arguments (Some arguments) = arguments

-- the arguments specify these renditions, one each
abbrev pub ParsesTo : List Text → List Rendition → Type 0
ParsesTo arguments renditions = map rendition_of arguments ≡ map Some renditions

-- argument n is the first that specifies no rendition
pub record IsFirstUnread (arguments : List Text) (n : ℕ) : Type 0 where
  pub renditions : List Rendition
  pub front : ParsesTo (take n arguments) renditions
  pub argument : Text
  pub is : slice_get arguments n ≡ Some argument
  pub unread : rendition_of argument ≡ None

-- the result is the rendition of the nth argument, the fault that it specifies none, or an allocation failure. For the code alone
abbrev pub ReadsRendition : ℕ → Text → Result Rendition SettingsFault → Type 0
ReadsRendition n argument (Ok rendition) = rendition_of argument ≡ Some rendition
ReadsRendition n argument (Err (faults.Rendition m)) = (m ≡ n) × (rendition_of argument ≡ None)
ReadsRendition n argument (Err faults.Memory) = Unit {0}
ReadsRendition n argument (Err _) = ⊥

-- the result is the renditions of the arguments, the first argument that specifies none, or an allocation failure
abbrev pub ReadsRenditions : List Text → Result (Vec Rendition Global) SettingsFault → Type 0
ReadsRenditions arguments (Ok renditions) = ParsesTo arguments renditions.items
ReadsRenditions arguments (Err (faults.Rendition n)) = IsFirstUnread arguments n
ReadsRenditions arguments (Err faults.Memory) = Unit {0}
ReadsRenditions arguments (Err _) = ⊥

-- a rendition whose tolerance is raised to at least this many microseconds
abbrev pub with_tolerance : ℕ → Rendition → Rendition
with_tolerance least r = record r { tolerance = max r.tolerance least }

-- the renditions with at least this tolerance, in microseconds, except the first
abbrev pub tolerant_by : ℕ → List Rendition → List Rendition
tolerant_by least [] = []
tolerant_by least (first ∷ others) = first ∷ map (with_tolerance least) others

-- The renditions of a channel, whose units are mended if there are settings for that: mending may move starts in opposite directions,
-- so only the first rendition may have a tolerance below twice that distance.
abbrev pub tolerant : Option MendSettings → List Rendition → List Rendition
tolerant None renditions = renditions
tolerant (Some settings) renditions = tolerant_by (2 * settings.snap_us) renditions

-- the arguments specify renditions that a channel can't have, and rendition n is the first one outside its limits
pub record IsFirstOutside (mending : Option MendSettings) (arguments : List Text) (n : ℕ) : Type 0 where
  pub renditions : List Rendition
  pub parses : ParsesTo arguments renditions
  pub outside : IsFirstBadRendition (tolerant mending renditions) n

-- the settings are those of the server and a valid configuration with the renditions that the arguments specify
pub record IsConfigured (server : ServerSettings) (arguments : List Text) (settings : Settings) : Type 0 where
  pub plain_is : settings.server ≡ server
  pub renditions : List Rendition
  pub parses : ParsesTo arguments renditions
  pub config : settings.config ≡ configured_from server.timing.target server.timing.preferred (tolerant server.mending renditions) server.epoch
  pub valid : IsConfig settings.config

-- the result is the configuration of a channel with these renditions, the first rendition outside its limits, or an allocation failure
abbrev pub Configures : WindowSettings → Option ℤ → List Rendition → Result Config SettingsFault → Type 0
Configures timing epoch renditions (Ok config) = (config ≡ configured_from timing.target timing.preferred renditions epoch) × IsConfig config
Configures timing epoch renditions (Err (faults.Rendition n)) = IsFirstBadRendition renditions n
Configures timing epoch renditions (Err faults.Memory) = Unit {0}
Configures timing epoch renditions (Err _) = ⊥

-- the result is the settings with the renditions of the arguments, the first invalid rendition, or an allocation failure
abbrev pub MakesSettings : ServerSettings → List Text → Result Settings SettingsFault → Type 0
MakesSettings server arguments (Ok settings) = IsConfigured server arguments settings
MakesSettings server arguments (Err (faults.Rendition n)) = IsFirstUnread arguments n ⊎ IsFirstOutside server.mending arguments n
MakesSettings server arguments (Err faults.Memory) = Unit {0}
MakesSettings server arguments (Err _) = ⊥

-- the result, given the settings of everything except the renditions, or their fault
abbrev pub SetsBy : Result ServerSettings SettingsFault → List Text → Result Settings SettingsFault → Type 0
SetsBy (Ok server) arguments result = MakesSettings server arguments result
SetsBy (Err fault) arguments result = result ≡ Err fault

-- the result, given the faults of `clap` and the texts: arguments that `clap` refuses are refused for the first invalid one
abbrev pub SetsIn : List Text → Kinds → Texts → Result Settings SettingsFault → Type 0
SetsIn arguments [] texts result = SetsBy (server_settings_of texts) (rendition_arguments texts.renditions) result
SetsIn arguments (k ∷ ks) texts result = result ≡ Err (faults.Arguments (wrong_argument serve_options true arguments))

-- the settings that the arguments specify, or the first invalid argument; memory may run out instead
abbrev pub ReadsSettings : List Text → Result Settings SettingsFault → Type 0
ReadsSettings arguments result = (result ≡ Err faults.Memory) ⊎ SetsIn arguments (fault_of serve_app arguments) (texts_of (matches_of serve_app arguments)) result

-- refused arguments, unless memory runs out. For the code alone
abbrev pub refused_by : ErrorKind → Option WrongArgument → SettingsFault
refused_by kinds.OutOfMemory wrong = faults.Memory
refused_by _ wrong = faults.Arguments wrong

-- the matches of `clap` lead to the settings that the arguments specify. For the code alone
abbrev pub FindsSettings : List Text → Result ArgMatches SettingsFault → Type 0
FindsSettings arguments (Ok matches) = (result : Result Settings SettingsFault) → SetsBy (server_settings_of (texts_in (found_of matches))) (rendition_arguments (texts_in (found_of matches)).renditions) result → ReadsSettings arguments result
FindsSettings arguments (Err fault) = ReadsSettings arguments (Err fault)
