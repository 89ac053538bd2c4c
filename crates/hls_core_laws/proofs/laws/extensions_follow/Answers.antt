-- If one state continues another, it follows it: it has the same configuration, a log that begins with the other's,
-- and the same bytes of whatever both keep.
use Rattle.hls_core_laws.proofs.Theorems.{follows_is_continuing}
use Rattle.hls_core_laws.proofs.laws.extensions_follow.Goals as goal

pub returns : goal.returns
returns c = follows_is_continuing
