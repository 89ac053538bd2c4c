-- Before each round, no argument so far gives the option: it is given exactly if a remaining argument gives it.
use Rattle.std.proofs.Common.{◌≡◌, drop, map}
use Rattle.hls_settings.specs.WrongArguments.{is_given}
use Rattle.hls_settings.proofs.wrong_argument.is_given.Given as goal

-- the remaining arguments give the same result
abbrev pub invariant-loop-argument : goal.invariant-loop-argument
invariant-loop-argument g l = is_given (map g.S.AsStr.text (drop l.argument-index l.arguments)) l.option ≡ is_given (map g.S.AsStr.text l.arguments) l.option
