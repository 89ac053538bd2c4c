-- If a state keeps a place, it keeps all later places: trims remove the first ones.
use Rattle.hls_core_laws.proofs.Theorems.{kept_are_last}
use Rattle.hls_core_laws.proofs.laws.kept_places_are_a_suffix.Goals as goal

pub returns : goal.returns
returns c = kept_are_last
