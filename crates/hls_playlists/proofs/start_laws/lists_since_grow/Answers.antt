-- In a state that follows one with a playlist since a time, that playlist begins with the same segment and is valid as a later one, or its first
-- segment was removed.
use Rattle.hls_playlists.proofs.SinceLists.{lists-since-grow}
use Rattle.hls_playlists.proofs.start_laws.lists_since_grow.Goals as goal

pub returns : goal.returns
returns c = lists-since-grow c.front_is_a_place.ensures c.line_from_cut_agrees.ensures c.places_never_go_back.ensures c.based_lists_follow.ensures
