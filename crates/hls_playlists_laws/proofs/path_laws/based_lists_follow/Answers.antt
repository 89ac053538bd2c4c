-- With any base, the playlist of a state that follows another is valid as a later one.
use Rattle.hls_playlists_laws.proofs.BasedLists.{based-lists-follow}
use Rattle.hls_playlists_laws.proofs.path_laws.based_lists_follow.Goals as goal

pub returns : goal.returns
returns c = based-lists-follow
