-- A state follows itself. (A state follows another if it has the same configuration, a log that continues the other's,
-- and the same bytes of whatever both keep.)
use Rattle.hls_core_laws.proofs.Theorems.{follows_itself}
use Rattle.hls_core_laws.proofs.laws.follows_is_reflexive.Goals as goal

pub returns : goal.returns
returns c = follows_itself
