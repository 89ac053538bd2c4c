-- A path of a channel that continues another one at a cut, with its base, names the same units in that one, or they are trimmed.
use Rattle.hls_playlists_laws.proofs.HandedPaths.{named-there}
use Rattle.hls_playlists_laws.proofs.path_laws.handed_over_paths_name_same_units.Goals as goal

pub returns : goal.returns
returns c = named-there
