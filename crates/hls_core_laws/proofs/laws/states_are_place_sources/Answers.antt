-- The renditions of every state are valid sources of common places.
use Rattle.hls_core_laws.proofs.Theorems.{states_are_timed}
use Rattle.hls_core_laws.proofs.laws.states_are_place_sources.Goals as goal

pub returns : goal.returns
returns c = states_are_timed
