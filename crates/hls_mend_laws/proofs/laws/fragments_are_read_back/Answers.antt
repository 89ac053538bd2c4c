-- A fragment that is written is read again as it was.
use Rattle.hls_mend_laws.proofs.ReadBackLaws.{fragments-are-read-back}
use Rattle.hls_mend_laws.proofs.laws.fragments_are_read_back.Goals as goal

pub returns : goal.returns
returns c = fragments-are-read-back
