-- The first invalid argument, and its fault.
use Rattle.std.specs.Prelude.{ℕ, ◌+◌, ◌-◌, ◌==◌, ◌||◌, List, [], ◌∷◌, ◌++◌, length, map, slice_get, Option, Some, None, Bool, true, false, not, cond, codes}
use Rattle.std.specs.Str.{bytes_eq}
use Rattle.clap.specs.Words.{Text}
use Rattle.hls_settings.specs.declared.wrong_argument.ArgumentFault.{ArgumentFault}
use Rattle.hls_settings.specs.declared.wrong_argument.ArgumentFault.TheVariants as faults
use Rattle.hls_settings.specs.declared.wrong_argument.WrongArgument.{WrongArgument}
use Rattle.hls_settings.specs.Numbers.{cut_at}

-- the options of a command by their long names, and whether each takes a value
abbrev pub OptionTable : Type 0
OptionTable = List (Text × Bool)

-- an argument is an option: it begins with a hyphen (45), and is longer
abbrev pub is_option : Text → Bool
is_option [] = false
is_option (x ∷ []) = false
is_option (x ∷ y ∷ ys) = x == 45

-- an argument is `--`, after which no argument is an option
abbrev pub ends_options : Text → Bool
ends_options argument = bytes_eq argument (45 ∷ 45 ∷ [])

-- an argument up to its first `=`, given the parts around that, and whether it has one
abbrev pub head_in : Text → Option (Text × Text) → Text × Bool
head_in argument None = (argument, false)
head_in argument (Some parts) = (parts.0, true)

-- the name of an option, up to its first `=` (61), and whether a value is attached
abbrev pub option_name : Text → Text × Bool
option_name argument = head_in argument (cut_at 61 argument)

-- whether the option `--name` takes a value; none if there is no such option
abbrev pub takes_value : OptionTable → Text → Option Bool
takes_value [] option = None
takes_value (o ∷ os) option = cond (bytes_eq option (45 ∷ 45 ∷ o.0)) (Some o.1) (takes_value os option)

-- whether an earlier argument gives the option
abbrev pub is_given : List Text → Text → Bool
is_given [] option = false
is_given (argument ∷ arguments) option = bytes_eq (option_name argument).0 option || is_given arguments option

-- whether the next argument is the value of an option: there is one, and it is no option
abbrev pub has_value : List Text → Bool
has_value [] = false
has_value (argument ∷ arguments) = not (is_option argument)

-- the fault of an option's value, by whether the option takes one and whether one is attached
abbrev pub value_fault : Bool → Bool → List Text → Option ArgumentFault
value_fault true true after = None
value_fault true false after = cond (has_value after) None (Some faults.NoValue)
value_fault false true after = Some faults.Unneeded
value_fault false false after = None

-- the fault of an option: it is unknown, given before, lacks its value or has one that it doesn't take
abbrev pub option_fault : Option Bool → List Text → Text × Bool → List Text → Option ArgumentFault
option_fault None before head after = Some faults.Unknown
option_fault (Some takes) before head after = cond (is_given before head.0) (Some faults.Repeated) (value_fault takes head.1 after)

-- whether an option takes a value; false if there is no such option
abbrev pub value_or_false : Option Bool → Bool
value_or_false None = false
value_or_false (Some takes) = takes

-- whether this argument, if there is one, is an option that takes a value
abbrev pub awaits_value : OptionTable → Option Text → Bool
awaits_value os None = false
awaits_value os (Some argument) = value_or_false (takes_value os argument)

-- the fault of an argument that is no option: it is stray, unless it is positional or an option's value
abbrev pub plain_fault : OptionTable → Bool → List Text → Option ArgumentFault
plain_fault os free before = cond (free || awaits_value os (slice_get before (length before - 1))) None (Some faults.Stray)

-- the fault of an argument before any `--`, given those before and after it
abbrev pub argument_fault : OptionTable → Bool → List Text → Text → List Text → Option ArgumentFault
argument_fault os free before argument after =
    cond (is_option argument) (option_fault (takes_value os (option_name argument).0) before (option_name argument) after) (plain_fault os free before)

-- the fault of argument `index`, or else a later argument's
abbrev pub or_later : ℕ → Option ArgumentFault → Option WrongArgument → Option WrongArgument
or_later index None later = later
or_later index (Some fault) later = Some (record { index = index; fault = fault })

-- the first argument after `--` that is stray: any, unless positional ones are allowed
abbrev pub find_stray : Bool → ℕ → List Text → Option WrongArgument
find_stray free index [] = None
find_stray true index (argument ∷ arguments) = None
find_stray false index (argument ∷ arguments) = Some (record { index = index; fault = faults.Stray })

-- the first invalid argument of these, which follow the ones before them
abbrev pub wrong_after : OptionTable → Bool → List Text → List Text → Option WrongArgument
wrong_after os free before [] = None
wrong_after os free before (argument ∷ arguments) = cond (ends_options argument) (find_stray free (length before + 1) arguments)
    (or_later (length before) (argument_fault os free before argument arguments) (wrong_after os free (before ++ argument ∷ []) arguments))

-- the first invalid argument, in their order
abbrev pub wrong_argument : OptionTable → Bool → List Text → Option WrongArgument
wrong_argument os free arguments = wrong_after os free [] arguments

-- the options of `serve`
abbrev pub serve_options : OptionTable
serve_options = map (λ name. (name, true)) (codes "target" ∷ codes "preferred" ∷ codes "window" ∷ codes "keep" ∷ codes "live" ∷ codes "epoch" ∷ codes "workers"
    ∷ codes "connections" ∷ codes "planners" ∷ codes "patience" ∷ codes "log" ∷ codes "run" ∷ codes "base" ∷ [])
    ++ (codes "mend", false) ∷ (codes "snap", true) ∷ (codes "fill", true) ∷ (codes "wait", true) ∷ (codes "job-life", true) ∷ (codes "unit-rate", true)
    ∷ (codes "journal", true) ∷ (codes "sync", true) ∷ (codes "journal-lost", true) ∷ (codes "anew", false) ∷ []

-- the options of `cut`
abbrev pub cut_options : OptionTable
cut_options = (codes "each", false) ∷ (codes "preferred", true) ∷ (codes "certificate", false) ∷ (codes "target", true) ∷ (codes "uri", true)
    ∷ (codes "charge", true) ∷ (codes "epoch", true) ∷ []
