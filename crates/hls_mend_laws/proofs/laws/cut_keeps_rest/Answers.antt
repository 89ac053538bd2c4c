-- A unit that is cut keeps its last samples and their bytes.
use Rattle.hls_mend_laws.proofs.SourceLaws.{cut-keeps-rest}
use Rattle.hls_mend_laws.proofs.laws.cut_keeps_rest.Goals as goal

pub returns : goal.returns
returns c = cut-keeps-rest
