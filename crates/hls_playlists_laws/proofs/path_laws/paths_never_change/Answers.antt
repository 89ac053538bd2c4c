-- In a later state a path names the same units with the same bytes, or some of them are trimmed.
use Rattle.hls_playlists_laws.proofs.KeptPaths.{paths-never-change}
use Rattle.hls_playlists_laws.proofs.path_laws.paths_never_change.Goals as goal

pub returns : goal.returns
returns c = paths-never-change
