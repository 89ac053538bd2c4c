-- From a state to one that follows it, the live playlist changes only as a reload may change it (RFC 8216 section 6.2.2).
use Rattle.hls_playlists_laws.proofs.Follows.{live-lists-follow}
use Rattle.hls_playlists_laws.proofs.live.live_lists_follow.Goals as goal

pub returns : goal.returns
returns c = live-lists-follow
