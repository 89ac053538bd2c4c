-- A renewed channel refuses a programme that begins before the cut as before the recording.
use Rattle.hls_renewal.proofs.RenewedProgrammes.{earlier_refused}
use Rattle.hls_renewal.proofs.laws.earlier_programmes_are_refused.Goals as goal

pub returns : goal.returns
returns c = earlier_refused c.places_from_a_place_agree.ensures c.places_never_go_back.ensures c.line_from_cut_agrees.ensures
