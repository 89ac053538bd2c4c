-- A slide that is due as upkeep has no fault.
use Rattle.hls_places_laws.proofs.LineLemmas.Upkeeps.{upkeep-slides}
use Rattle.hls_places_laws.proofs.line.laws.upkeep_slide_is_valid.Goals as goal

pub returns : goal.returns
returns c = upkeep-slides
