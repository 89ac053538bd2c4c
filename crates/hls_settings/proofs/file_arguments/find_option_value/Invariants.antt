-- Before each round, the remaining arguments, and whether the one before them named the option, give the same value as all arguments.
use Rattle.std.proofs.Common.{◌≡◌, drop, map}
use Rattle.hls_settings.specs.FileArguments.{option_value, value_from}
use Rattle.hls_settings.proofs.file_arguments.find_option_value.Given as goal

-- the remaining arguments give the same result
abbrev pub invariant-loop-argument : goal.invariant-loop-argument
invariant-loop-argument g l = value_from l.name l.is_named (map g.S.AsStr.text (drop l.argument-index l.arguments)) ≡ option_value l.name (map g.S.AsStr.text l.arguments)
