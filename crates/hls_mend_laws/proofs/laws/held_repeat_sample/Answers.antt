-- A filler that holds a sample has one sample: the first of the recorded unit, with its bytes, for the ticks to fill.
use Rattle.hls_mend_laws.proofs.SourceLaws.{held-repeat-sample}
use Rattle.hls_mend_laws.proofs.laws.held_repeat_sample.Goals as goal

pub returns : goal.returns
returns c = held-repeat-sample
