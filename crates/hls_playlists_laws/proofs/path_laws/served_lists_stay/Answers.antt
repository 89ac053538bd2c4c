-- Two states of one log with equally many events have the same playlists, by ranges and by paths.
use Rattle.hls_playlists_laws.proofs.BasedLists.{based-lists-stay}
use Rattle.hls_playlists_laws.proofs.path_laws.served_lists_stay.Goals as goal

pub returns : goal.returns
returns c = based-lists-stay
