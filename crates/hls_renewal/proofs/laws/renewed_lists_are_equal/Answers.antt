-- If the old channel's live line has a segment, the playlists of the renewed channel equal the old ones, by ranges and by paths.
use Rattle.hls_renewal.proofs.EqualLists.{equal_lists}
use Rattle.hls_renewal.proofs.laws.renewed_lists_are_equal.Goals as goal

pub returns : goal.returns
returns c =
    equal_lists c.places_from_a_place_agree.ensures c.places_never_go_back.ensures c.line_from_cut_agrees.ensures c.taken_over_lists_are_equal.ensures
    c.base_of_cut_takes_over.ensures
