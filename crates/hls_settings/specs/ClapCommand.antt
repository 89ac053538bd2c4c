-- Commands of `clap` by a table of their options. For the code alone.
use Rattle.std.specs.Prelude.{List, [], ◌∷◌, Bool, true, false}
use Rattle.clap.specs.Words.{App, Rule, Text, new_app, with_rule}
use Rattle.hls_settings.specs.Command.{value_rule, without_name}
use Rattle.hls_settings.specs.Flags.{flag_rule}

-- an option with or without a value
abbrev pub option_rule : Text → Bool → Rule
option_rule name true = value_rule name
option_rule name false = flag_rule name

-- a command extended by these options: their long names, and whether each takes a value
abbrev pub with_options : App → List (Text × Bool) → App
with_options app [] = app
with_options app (o ∷ os) = with_options (with_rule app (option_rule o.0 o.1)) os

-- a command with this name and these options; its arguments don't begin with its name
abbrev pub command_with : Text → List (Text × Bool) → App
command_with name os = with_options (without_name (new_app name)) os
