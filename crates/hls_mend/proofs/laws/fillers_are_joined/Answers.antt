-- Fillers continue their rendition from its end, each starts where the one before it ends, and they end with the gap unless one can't be made.
use Rattle.hls_mend.proofs.ContiguousLaws.{fillers-are-joined}
use Rattle.hls_mend.proofs.laws.fillers_are_joined.Goals as goal

pub returns : goal.returns
returns c = fillers-are-joined
