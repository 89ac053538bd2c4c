-- After one more option is added, the command so far with the remaining options is still the command with all.
use Rattle.std.proofs.Common.{◌∙◌, ap, arith}
use Rattle.clap.specs.Words.{app_of, with_rule}
use Rattle.hls_settings.proofs.Building.{one_more}
use Rattle.hls_settings.proofs.command.with_options.Goals as goal

pub loop-long-preserved : goal.loop-long-preserved
loop-long-preserved c = record {
  left = one_more (app_of c.loop-long.command) (app_of c.in_ok-command.command) c.args.options.now c.loop-long.long-index _ (omega arith)
      (c.in_ok-command.ensures.shape c.build_option.ensures.local ∙ ap (with_rule (app_of c.loop-long.command)) c.build_option.ensures.rule) ∙ c.loop-long.invariant.left;
}
