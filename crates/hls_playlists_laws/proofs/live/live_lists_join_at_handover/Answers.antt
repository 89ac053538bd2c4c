-- After a playlist of the first origin, the second origin's is valid as a later one, if the handover's constants are added to its numbers.
use Rattle.hls_playlists_laws.proofs.JoinedLists.{live-lists-join}
use Rattle.hls_playlists_laws.proofs.live.live_lists_join_at_handover.Goals as goal

pub returns : goal.returns
returns c = live-lists-join
