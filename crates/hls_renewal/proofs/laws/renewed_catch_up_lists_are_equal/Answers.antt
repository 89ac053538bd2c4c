-- A plan of a programme from the cut on has the same playlist in each rendition of a renewed channel as in the old one,
-- and a resource with the same bytes.
use Rattle.hls_renewal.proofs.RenewedProgrammes.{lists_agree}
use Rattle.hls_renewal.proofs.laws.renewed_catch_up_lists_are_equal.Goals as goal

pub returns : goal.returns
returns c = lists_agree c.places_from_a_place_agree.ensures c.places_never_go_back.ensures c.line_from_cut_agrees.ensures
