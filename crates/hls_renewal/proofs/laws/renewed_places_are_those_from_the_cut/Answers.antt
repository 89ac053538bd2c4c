-- The common places of a renewed channel are those of the old one from the cut on, counted from there.
use Rattle.hls_renewal.proofs.RenewedSources.{places_from_cut, renewed}
use Rattle.hls_renewal.proofs.laws.renewed_places_are_those_from_the_cut.Goals as goal

pub returns : goal.returns
returns c = λ a b renews state.
    let from = places_from_cut a b (renews.cut) (renewed a b renews state) state c.places_from_a_place_agree.ensures c.places_never_go_back.ensures c.line_from_cut_agrees.ensures in
    (from.0, from.1, from.2)
