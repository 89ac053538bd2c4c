-- The text of an instant that can be written is read as that instant, rounded down to milliseconds.
use Rattle.hls_instants.proofs.laws.instant_text_reads_back.Goals as goal
use Rattle.hls_instants.proofs.Moments.{moment_reads_back}

pub returns : goal.returns
returns c = moment_reads_back
