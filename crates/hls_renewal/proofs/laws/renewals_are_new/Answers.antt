-- Each event of a renewal is new in the state that it meets.
use Rattle.hls_renewal.proofs.NewSlides.{events_new}
use Rattle.hls_renewal.proofs.laws.renewals_are_new.Goals as goal

pub returns : goal.returns
returns c = events_new c.places_from_a_place_agree.ensures c.places_never_go_back.ensures c.line_from_cut_agrees.ensures
