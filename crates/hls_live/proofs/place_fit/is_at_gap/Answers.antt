-- The answer is whether some rendition's spot has different gap counts before and after it, that is, a gap immediately before the place.
use Rattle.std.proofs.Common.{not, eqb, tests, rules}
use Rattle.std.proofs.lemmas.Iterator.{YieldsList-from_slice}
use Rattle.std.proofs.lemmas.Iterator.Search.{any_from_yields_List}
use Rattle.hls_check_tables.specs.declared.spot.Spot.{Spot}
use Rattle.hls_places_laws.specs.Line.Steps.{is_at_gap}
use Rattle.hls_live.proofs.place_fit.is_at_gap.Goals as goal

pub returns : goal.returns
unfolding is_at_gap
returns c =
    any_from_yields_List (λ (spot : Spot). not (eqb spot.run_in spot.run_out)) _ _ c.any.result c.any.ensures.ran
    (YieldsList-from_slice c.args.place.now.spots cc) (λ x b q k. search (rules, tests))
