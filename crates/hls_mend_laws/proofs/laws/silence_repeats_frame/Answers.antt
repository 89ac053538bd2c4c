-- Each sample of a filler of silence is the silent frame.
use Rattle.hls_mend_laws.proofs.SourceLaws.{silence-repeats-frame}
use Rattle.hls_mend_laws.proofs.laws.silence_repeats_frame.Goals as goal

pub returns : goal.returns
returns c = silence-repeats-frame
