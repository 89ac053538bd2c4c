-- A rendition is finished exactly if its lane in the channel is; one that doesn't exist isn't finished.
use Rattle.std.proofs.Common.{◌∙◌, ap, false}
use Rattle.std.specs.Prelude.{unwrap_or}
use Rattle.hls_catchup.proofs.States.{finished_there}
use Rattle.hls_catchup.proofs.recordings.is_finished.Goals as goal

pub returns : goal.returns
returns c = c.unwrap_or.ensures ∙ ap (λ o. unwrap_or o false) c.is_finished.ensures.value ∙ finished_there c.args.snapshot.now c.args.rendition
