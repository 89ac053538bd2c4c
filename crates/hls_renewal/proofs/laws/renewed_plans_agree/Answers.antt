-- A programme from the cut on has the same plans at the same costs, whether its table is counted from the cut or not.
use Rattle.hls_renewal.proofs.RenewedProgrammes.{plans_agree}
use Rattle.hls_renewal.proofs.laws.renewed_plans_agree.Goals as goal

pub returns : goal.returns
returns c = plans_agree c.places_from_a_place_agree.ensures c.places_never_go_back.ensures c.line_from_cut_agrees.ensures
