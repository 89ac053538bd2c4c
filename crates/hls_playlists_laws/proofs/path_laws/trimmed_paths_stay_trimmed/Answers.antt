-- A path that names trimmed units in a state names trimmed ones in each state that follows, if the rendition has its init section.
use Rattle.hls_playlists_laws.proofs.KeptPaths.{trimmed-stay}
use Rattle.hls_playlists_laws.proofs.path_laws.trimmed_paths_stay_trimmed.Goals as goal

pub returns : goal.returns
returns c = trimmed-stay
