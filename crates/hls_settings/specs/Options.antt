-- The options of `cut`, from its arguments.
use Rattle.std.specs.Prelude.{◌≡◌, ℕ, ℤ, ◌*◌, List, [], ◌∷◌, Option, Some, None, Result, Ok, Err, Bool, false, not, ◌≤◌, ◌&&◌, ◌||◌, cond, codes, is_some}
use Rattle.std.specs.Prelude.{nat_lt, nat_le, option_and_then}
use Rattle.std.specs.Str.{bytes_eq}
use Rattle.clap.specs.Words.{App, Row, Rule, Text, fault_of, first_of, first_value, found_of, matches_of, new_app, new_rule, with_rule}
use Rattle.clap.specs.Kinds.{Kinds}
use Rattle.clap.specs.declared.parser.matches.ArgMatches.{ArgMatches}
use Rattle.clap.specs.declared.error.kind.ErrorKind.{ErrorKind}
use Rattle.clap.specs.declared.error.kind.ErrorKind.TheVariants as kinds
use Rattle.hls_m3u8.specs.Uri.{IsUri, is_uri_text}
use Rattle.hls_core_laws.specs.Config.{IsEpoch}
use Rattle.hls_text.specs.Digits.{number_of_digits}
use Rattle.hls_settings.specs.declared.cut_options_fault.CutOptionsFault.{CutOptionsFault}
use Rattle.hls_settings.specs.declared.cut_options_fault.CutOptionsFault.TheVariants as faults
use Rattle.hls_settings.specs.Command.{value_rule, without_name}
use Rattle.hls_settings.specs.Flags.{flag_rule, is_set}
use Rattle.hls_settings.specs.Settings.{epoch_in}
use Rattle.hls_settings.specs.WrongArguments.{cut_options, wrong_argument}
use Rattle.hls_settings.specs.declared.wrong_argument.WrongArgument.{WrongArgument}
use Rattle.hls_check_tables.specs.Tables.{charge_limit, target_limit}

-- the options: the target duration in seconds, the URI's bytes, the preferred length in µs if a least plan is requested, the charge
-- for each segment if the plan is least by rule 2, the epoch if it is known, and whether the plan's certificate is requested instead
-- of the playlist
pub record CutOptionsData : Type 0 where
  pub target : ℕ
  pub uri : List ℕ
  pub preferred : Option ℕ
  pub charge : Option ℕ
  pub epoch : Option ℤ
  pub certificate : Bool

-- a preferred length, if there is one, is from 1 microsecond to the target duration
abbrev pub IsPreferredOf : ℕ → Option ℕ → Type 0
IsPreferredOf target None = Unit {0}
IsPreferredOf target (Some length) = (1 ≤ length) × (length ≤ target * 1000000)

-- a charge, if there is one, is at most an hour, in microseconds
abbrev pub IsCharge : Option ℕ → Type 0
IsCharge None = Unit {0}
IsCharge (Some charge) = charge ≤ charge_limit

-- the record of these options, in the order of its fields
abbrev pub choice_with : ℕ → List ℕ → Option ℕ → Option ℕ → Option ℤ → Bool → CutOptionsData
choice_with target uri preferred charge epoch certificate =
    record { target = target; uri = uri; preferred = preferred; charge = charge; epoch = epoch; certificate = certificate }

-- all options are in their ranges
pub record IsGood (choice : CutOptionsData) : Type 0 where
  pub least : 1 ≤ choice.target
  pub most : choice.target ≤ target_limit
  pub is_uri : IsUri choice.uri
  pub preferred : IsPreferredOf choice.target choice.preferred
  pub charge : IsCharge choice.charge
  pub epoch : IsEpoch choice.epoch

-- the command `cut` without options
abbrev pub named_app : App
named_app = without_name (new_app (codes "cut"))

-- the command: `--each`, `--preferred N`, `--certificate`, `--target N`, `--uri TEXT`, `--charge N`, `--epoch TEXT`
unfoldable pub cut_app : App
cut_app =
    with_rule (with_rule (with_rule (with_rule (with_rule (with_rule (with_rule named_app (flag_rule (codes "each"))) (value_rule (codes "preferred"))) (flag_rule (codes "certificate")))
    (value_rule (codes "target"))) (value_rule (codes "uri"))) (value_rule (codes "charge"))) (value_rule (codes "epoch"))

-- a target duration, if it is in its range of 1 to 3600 seconds
abbrev pub in_range : ℕ → Option ℕ
in_range target = cond (nat_lt 0 target && nat_le target target_limit) (Some target) None

-- the target duration: the number in the text of `--target`, or 6 seconds without it
abbrev pub target_in : Option Text → Option ℕ
target_in None = Some 6
target_in (Some text) = option_and_then in_range (number_of_digits 16 text)

-- a preferred length, if it is in its range of 1 microsecond to the target duration
abbrev pub preferred_at : ℕ → ℕ → Option (Option ℕ)
preferred_at target length = cond (nat_lt 0 length && not (nat_lt (target * 1000000) length)) (Some (Some length)) None

-- the preferred length, if one is given, by the text of `--preferred`
abbrev pub preferred_in : ℕ → Option Text → Option (Option ℕ)
preferred_in target None = Some None
preferred_in target (Some text) = option_and_then (preferred_at target) (number_of_digits 16 text)

-- a charge, if it is in its range of 0 to 3600000000 microseconds
abbrev pub charge_at : ℕ → Option (Option ℕ)
charge_at charge = cond (nat_le charge charge_limit) (Some (Some charge)) None

-- the charge, if one is given, by the text of `--charge`
abbrev pub charge_in : Option Text → Option (Option ℕ)
charge_in None = Some None
charge_in (Some text) = option_and_then charge_at (number_of_digits 16 text)

-- a URI, if a playlist can contain it
abbrev pub checked_uri : List ℕ → Option (List ℕ)
checked_uri text = cond (is_uri_text text) (Some text) None

-- the URI: the text of `--uri`, or `media.mp4` without it
abbrev pub uri_in : Option Text → Option (List ℕ)
uri_in None = checked_uri (codes "media.mp4")
uri_in (Some text) = checked_uri text

-- `--each` excludes `--preferred` and `--certificate`
abbrev pub allows_each : Bool → Bool → Bool → Bool
allows_each each preferred certificate = not (each && (preferred || certificate))

-- `--certificate` and `--charge` need `--preferred`
abbrev pub has_needed_preferred : Bool → Bool → Bool → Bool
has_needed_preferred preferred certificate charge = not ((certificate || charge) && not preferred)

-- what a valid value leads to, or the fault of an invalid one
abbrev pub or_wrong : {A : Type 0} → CutOptionsFault → Option A → (A → Result CutOptionsData CutOptionsFault) → Result CutOptionsData CutOptionsFault
or_wrong fault None next = Err fault
or_wrong fault (Some value) next = next value

-- the options with these valid values, or a fault if some exclude or need each other
abbrev pub options_or_fault : ℕ → List ℕ → Option ℕ → Option ℕ → Option ℤ → Bool → Bool → Result CutOptionsData CutOptionsFault
options_or_fault target uri preferred charge epoch each certificate =
    cond (allows_each each (is_some preferred) certificate)
    (cond (has_needed_preferred (is_some preferred) certificate (is_some charge)) (Ok (choice_with target uri preferred charge epoch certificate)) (Err faults.Unplanned))
    (Err faults.Each)

-- the options by the texts of the arguments, or the first fault: each value in turn, then the options that exclude or need each other
abbrev pub choice_in : Option Text → Option Text → Option Text → Option Text → Option Text → Option Text → Option Text → Result CutOptionsData CutOptionsFault
choice_in each preferred certificate target uri charge epoch =
    or_wrong faults.Target (target_in target) (λ t. or_wrong faults.Uri (uri_in uri) (λ u. or_wrong faults.Preferred (preferred_in t preferred) (λ p.
    or_wrong faults.Charge (charge_in charge) (λ c. or_wrong faults.Epoch (epoch_in epoch) (λ e. options_or_fault t u p c e (is_set each) (is_set certificate))))))

-- a fault if the given options exclude or need each other. For the code alone
abbrev pub check_together : Bool → Bool → Bool → Bool → Result (Unit {0}) CutOptionsFault
check_together each preferred certificate charge =
    cond (allows_each each preferred certificate) (cond (has_needed_preferred preferred certificate charge) (Ok tt) (Err faults.Unplanned)) (Err faults.Each)

-- the options with this target duration and URI, by the values of the other options. For the code alone
abbrev pub choice_after : ℕ → List ℕ → (List ℕ → Option Text) → Result CutOptionsData CutOptionsFault
choice_after target uri value =
    or_wrong faults.Preferred (preferred_in target (value (codes "preferred"))) (λ p. or_wrong faults.Charge (charge_in (value (codes "charge"))) (λ c.
    or_wrong faults.Epoch (epoch_in (value (codes "epoch"))) (λ e. options_or_fault target uri p c e (is_set (value (codes "each"))) (is_set (value (codes "certificate"))))))

-- arguments that `clap` refuses are refused for the first invalid one
abbrev pub unless_refused : Kinds → Option WrongArgument → Result CutOptionsData CutOptionsFault → Result CutOptionsData CutOptionsFault
unless_refused [] wrong choice = choice
unless_refused (k ∷ ks) wrong choice = Err (faults.Arguments wrong)

-- the options by the value of each given option, or the first fault
abbrev pub choice_by : (List ℕ → Option Text) → Result CutOptionsData CutOptionsFault
choice_by value =
    choice_in (value (codes "each")) (value (codes "preferred")) (value (codes "certificate")) (value (codes "target"))
    (value (codes "uri")) (value (codes "charge")) (value (codes "epoch"))

-- the options by the rows that `clap` makes of the arguments, or the first fault
abbrev pub choice_of : List Row → Result CutOptionsData CutOptionsFault
choice_of rows = choice_by (λ name. first_of name rows)

-- the options that the arguments specify, or the first invalid argument
unfoldable pub options_of : List Text → Result CutOptionsData CutOptionsFault
options_of arguments = unless_refused (fault_of cut_app arguments) (wrong_argument cut_options false arguments) (choice_of (matches_of cut_app arguments))

-- the result is what the arguments specify, or an allocation failure
abbrev pub ReadsOptions : List Text → Result CutOptionsData CutOptionsFault → Type 0
ReadsOptions arguments (Err faults.Memory) = Unit {0}
ReadsOptions arguments result = options_of arguments ≡ result

-- refused arguments, unless memory runs out. For the code alone
abbrev pub refused_option : ErrorKind → Option WrongArgument → CutOptionsFault
refused_option kinds.OutOfMemory wrong = faults.Memory
refused_option _ wrong = faults.Arguments wrong

-- the matches of `clap` lead to the options that the arguments specify. For the code alone
abbrev pub FindsOptions : List Text → Result ArgMatches CutOptionsFault → Type 0
FindsOptions arguments (Ok matches) = choice_by (first_value (found_of matches)) ≡ options_of arguments
FindsOptions arguments (Err fault) = ReadsOptions arguments (Err fault)
