-- At most one upkeep of a channel is due: two that are due are the same.
use Rattle.hls_places_laws.proofs.LineLemmas.Upkeeps.{one-upkeep}
use Rattle.hls_places_laws.proofs.line.laws.upkeep_is_unique.Goals as goal

pub returns : goal.returns
returns c = one-upkeep
