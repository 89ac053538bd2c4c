-- With any constants added to their numbers, playlists of the second origin are valid as later ones of each other.
use Rattle.hls_playlists_laws.proofs.JoinedLists.{live-lists-stay_joined}
use Rattle.hls_playlists_laws.proofs.live.live_lists_stay_joined.Goals as goal

pub returns : goal.returns
returns c = live-lists-stay_joined
