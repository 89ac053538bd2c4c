-- If the places are in order and the live line begins at one of them, a trim that is due as upkeep raises the floor,
-- but not beyond the place where the line begins.
use Rattle.hls_places_laws.proofs.LineLemmas.Upkeeps.{upkeep-trims}
use Rattle.hls_places_laws.proofs.line.laws.upkeep_trim_is_valid.Goals as goal

pub returns : goal.returns
returns c = upkeep-trims
