-- A programme from the cut on has the same table in a renewed channel as in the old one, counted from the cut, or the same refusal.
use Rattle.hls_renewal.proofs.RenewedProgrammes.{programmes_agree}
use Rattle.hls_renewal.proofs.laws.renewed_programmes_agree.Goals as goal

pub returns : goal.returns
returns c = programmes_agree c.places_from_a_place_agree.ensures c.places_never_go_back.ensures c.line_from_cut_agrees.ensures
