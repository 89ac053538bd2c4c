-- If the first segment of a playlist since a time was removed, it is so in each later state.
use Rattle.hls_playlists.proofs.SinceLists.{removed-stay-removed}
use Rattle.hls_playlists.proofs.start_laws.removed_lists_stay_removed.Goals as goal

pub returns : goal.returns
returns c = removed-stay-removed c.front_is_a_place.ensures c.line_from_cut_agrees.ensures c.places_never_go_back.ensures c.based_lists_follow.ensures
