-- Each path that a state lists names units that the state keeps, no longer than a segment may be.
use Rattle.hls_playlists_laws.proofs.ListedPaths.{listed-paths-are-kept}
use Rattle.hls_playlists_laws.proofs.path_laws.listed_paths_are_kept.Goals as goal

pub returns : goal.returns
returns c = listed-paths-are-kept
