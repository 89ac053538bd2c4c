-- If units aren't mended, the pass does nothing, which is a run of the housekeeper's actions.
use Rattle.hls_housekeeper.proofs.Keeping.{kept_still}
use Rattle.hls_housekeeper.proofs.housekeeper.run_filling.Goals as goal

pub returns-in_default-clause-keeps : goal.returns-in_default-clause-keeps
returns-in_default-clause-keeps g c = λ window keep. kept_still _ window keep _
