-- The command that is built has the options of `cut`, in their order.
use Rattle.hls_settings.specs.Options.{cut_app}
use Rattle.hls_settings.proofs.cut_options.cut_command.Goals as goal

pub returns : goal.returns
unfolding cut_app
returns c = c.with_options.ensures
