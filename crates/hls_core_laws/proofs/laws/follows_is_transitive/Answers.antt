-- If one state follows a second, and the second a third, the first follows the third.
use Rattle.hls_core_laws.proofs.Theorems.{follows_through}
use Rattle.hls_core_laws.proofs.laws.follows_is_transitive.Goals as goal

pub returns : goal.returns
returns c = follows_through
