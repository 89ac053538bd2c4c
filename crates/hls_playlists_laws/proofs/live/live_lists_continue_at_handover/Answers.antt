-- After a handover at a cut, the second origin's playlists continue the channel's: the same segments, dates, lengths and marks (except the first
-- one's) follow, and ranges and sequence numbers differ by a constant.
use Rattle.hls_playlists_laws.proofs.Handovers.{live-lists-continuation}
use Rattle.hls_playlists_laws.proofs.live.live_lists_continue_at_handover.Goals as goal

pub returns : goal.returns
returns c = live-lists-continuation
