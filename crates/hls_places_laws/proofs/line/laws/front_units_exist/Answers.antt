-- In each rendition the place where the live line begins has a spot whose unit exists, or is the next one.
use Rattle.hls_places_laws.proofs.LineLemmas.Within.{front-within}
use Rattle.hls_places_laws.proofs.line.laws.front_units_exist.Goals as goal

pub returns : goal.returns
returns c = front-within
