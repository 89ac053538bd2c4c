-- Before each round, no argument so far is invalid: the remaining ones, after those before them, give the same result as all.
use Rattle.std.proofs.Common.{◌≡◌, drop, map, take}
use Rattle.hls_settings.specs.WrongArguments.{wrong_after, wrong_argument}
use Rattle.hls_settings.proofs.wrong_argument.find_wrong_argument.Given as goal

-- the remaining arguments, after those before them, give the same result
abbrev pub invariant-loop-index : goal.invariant-loop-index
invariant-loop-index g l = wrong_after (map (λ o. (o.0.now, o.1)) l.options) l.takes_arguments (map g.S.AsStr.text (take l.index l.arguments)) (map g.S.AsStr.text (drop l.index l.arguments))
    ≡ wrong_argument (map (λ o. (o.0.now, o.1)) l.options) l.takes_arguments (map g.S.AsStr.text l.arguments)
