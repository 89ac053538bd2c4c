-- With the base of another channel's cut, playlists equal that channel's own once both have removed and listed as many segments.
use Rattle.hls_playlists_laws.proofs.BasedLists.{lists-same}
use Rattle.hls_playlists_laws.proofs.path_laws.handed_over_lists_are_equal.Goals as goal

pub returns : goal.returns
returns c = lists-same
