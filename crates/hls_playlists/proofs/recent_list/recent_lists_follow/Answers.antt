-- If a state has a playlist of the last segments, a state that follows it has one too, and that one is valid as a later one (RFC 8216 section
-- 6.2.2).
use Rattle.hls_playlists.proofs.RecentLists.{recent-lists-follow}
use Rattle.hls_playlists.proofs.recent_list.recent_lists_follow.Goals as goal

pub returns : goal.returns
returns c = recent-lists-follow c.front_is_a_place.ensures c.based_lists_follow.ensures
