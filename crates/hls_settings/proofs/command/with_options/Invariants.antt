-- Before each round, the command so far with the remaining options is the command with this name and all options.
use Rattle.std.proofs.Common.{◌≡◌, drop, map}
use Rattle.clap.specs.Words.{app_of, new_app}
use Rattle.hls_settings.specs.ClapCommand.{with_options}
use Rattle.hls_settings.specs.Command.{without_name}
use Rattle.hls_settings.proofs.command.with_options.Given as goal

-- the command so far, with the remaining options, has them all
abbrev pub invariant-loop-long : goal.invariant-loop-long
invariant-loop-long l = record {
  left : with_options (app_of l.command) (map (λ o. (o.0.now, o.1)) (drop l.long-index l.options)) ≡ with_options (without_name (new_app l.fn.name)) (map (λ o. (o.0.now, o.1)) l.options);
}
