-- Two states of one log with equally many events have the same live playlists.
use Rattle.hls_playlists_laws.proofs.Stays.{live-lists-stay}
use Rattle.hls_playlists_laws.proofs.live.live_lists_stay.Goals as goal

pub returns : goal.returns
returns c = live-lists-stay
