-- The answer is whether a segment may span from one place to the other: the test for a pair of a recording's places is the same test.
use Rattle.std.proofs.lemmas.Bool.Decides.{same_from_decides}
use Rattle.hls_live.proofs.Cited.{step-from_allowed, allowed-from_step}
use Rattle.hls_places_laws.specs.Line.Steps.{is_allowed}
use Rattle.hls_live.proofs.place_fit.is_allowed.Goals as goal

pub returns : goal.returns
returns c =
    let line_goal = c.args.line_goal in
    let from = c.args.from.now in
    let place = c.args.place.now in
    same_from_decides c.pair_allowed.result (is_allowed line_goal from place) c.pair_allowed.ensures
    (step-from_allowed line_goal from place, allowed-from_step line_goal from place)
