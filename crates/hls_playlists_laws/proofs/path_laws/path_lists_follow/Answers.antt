-- From a state to one that follows it, the path list changes only as a reload may change it (RFC 8216 section 6.2.2).
use Rattle.hls_playlists_laws.proofs.BasedLists.{path-lists-follow}
use Rattle.hls_playlists_laws.proofs.path_laws.path_lists_follow.Goals as goal

pub returns : goal.returns
returns c = path-lists-follow
