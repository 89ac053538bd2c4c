-- Before each round, none of the options so far has the name: the remaining ones give the same result as all.
use Rattle.std.proofs.Common.{◌≡◌, drop, map}
use Rattle.hls_settings.specs.WrongArguments.{takes_value}
use Rattle.hls_settings.proofs.wrong_argument.takes_value.Given as goal

-- the remaining options give the same result
abbrev pub invariant-loop-name : goal.invariant-loop-name
invariant-loop-name l = takes_value (map (λ o. (o.0.now, o.1)) (drop l.name-index l.options)) l.option ≡ takes_value (map (λ o. (o.0.now, o.1)) l.options) l.option
