-- With the base of another channel's cut, playlists are valid as later ones of that channel's, as soon as they may take over.
use Rattle.hls_playlists_laws.proofs.BasedLists.{lists-join}
use Rattle.hls_playlists_laws.proofs.path_laws.handed_over_lists_join.Goals as goal

pub returns : goal.returns
returns c = lists-join
