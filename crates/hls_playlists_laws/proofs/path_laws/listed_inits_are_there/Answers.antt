-- A rendition that has a path list has its init section.
use Rattle.hls_playlists_laws.proofs.ListedPaths.{listed-inits-are-there}
use Rattle.hls_playlists_laws.proofs.path_laws.listed_inits_are_there.Goals as goal

pub returns : goal.returns
returns c = listed-inits-are-there
