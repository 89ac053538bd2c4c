-- The playlists of a channel that continues another one at a cut equal that channel's, by ranges and by paths.
use Rattle.hls_playlists_laws.proofs.BasedLists.{taken-over-equal}
use Rattle.hls_playlists_laws.proofs.path_laws.taken_over_lists_are_equal.Goals as goal

pub returns : goal.returns
returns c = taken-over-equal
