-- Two ranges with the same path are equal: a path names one range.
use Rattle.hls_playlists_laws.proofs.Paths.{paths-are_ranges}
use Rattle.hls_playlists_laws.proofs.path_laws.paths_are_ranges.Goals as goal

pub returns : goal.returns
returns c = paths-are_ranges
