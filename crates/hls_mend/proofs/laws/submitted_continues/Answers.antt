-- A unit that starts where its rendition ended when the channel was looked at is taken later only if nothing was recorded in between.
use Rattle.hls_mend.proofs.ChannelLaws.{submitted-continues}
use Rattle.hls_mend.proofs.laws.submitted_continues.Goals as goal

pub returns : goal.returns
returns c = submitted-continues
