-- Options that name files, in valid arguments.
use Rattle.std.specs.Prelude.{ℕ, Bool, true, false, List, [], ◌∷◌, Option, Some, None, codes, cond}
use Rattle.std.specs.Str.{bytes_eq}
use Rattle.hls_settings.specs.Numbers.{cut_at}

-- the value in an argument NAME=VALUE, given the parts before and after its first `=`, if they exist
abbrev pub value_in : List ℕ → Option (List ℕ × List ℕ) → Option (List ℕ)
value_in name None = None
value_in name (Some parts) = cond (bytes_eq parts.0 name) (Some parts.1) None

-- the value in an argument NAME=VALUE of this name
abbrev pub attached_value : List ℕ → List ℕ → Option (List ℕ)
attached_value name argument = value_in name (cut_at 61 argument)

-- the first value, or the second one without it
abbrev pub value_or : Option (List ℕ) → Option (List ℕ) → Option (List ℕ)
value_or (Some value) rest = Some value
value_or None rest = rest

-- the value of an option in these arguments; if `is_named`, the argument before them was its name, so the first one is its value
abbrev pub value_from : List ℕ → Bool → List (List ℕ) → Option (List ℕ)
value_from name is_named [] = None
value_from name true (argument ∷ rest) = Some argument
value_from name false (argument ∷ rest) = value_or (attached_value name argument) (value_from name (bytes_eq argument name) rest)

-- the value of the option NAME, given as NAME VALUE or NAME=VALUE
abbrev pub option_value : List ℕ → List (List ℕ) → Option (List ℕ)
option_value name arguments = value_from name false arguments

-- the value of the option `--base`
abbrev pub base_argument : List (List ℕ) → Option (List ℕ)
base_argument arguments = option_value (codes "--base") arguments

-- the value of the option `--journal`
abbrev pub journal_argument : List (List ℕ) → Option (List ℕ)
journal_argument arguments = option_value (codes "--journal") arguments
