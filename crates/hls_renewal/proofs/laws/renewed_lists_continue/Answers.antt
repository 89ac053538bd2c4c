-- If the old channel's live line has a segment, each playlist of the renewed channel is valid as a later one of each
-- that was sent before the renewal.
use Rattle.hls_renewal.proofs.EqualLists.{later_lists}
use Rattle.hls_renewal.proofs.laws.renewed_lists_continue.Goals as goal

pub returns : goal.returns
returns c =
    later_lists c.places_from_a_place_agree.ensures c.places_never_go_back.ensures c.line_from_cut_agrees.ensures c.taken_over_lists_are_equal.ensures
    c.base_of_cut_takes_over.ensures c.based_lists_follow.ensures c.path_lists_follow.ensures
