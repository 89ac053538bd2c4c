-- A text begins with a further spot exactly if it begins with a space and the five numbers of a spot after that.
use Rattle.hls_check.proofs.PlaceTexts.{next_spot, behind_space, without_space}
use Rattle.hls_check.proofs.place.take_next_spot.Goals as goal

pub returns-in_default : goal.returns-in_default
returns-in_default c = without_space c.args.text.now c.in_default.ensures

pub returns-in-Some-take_spot : goal.returns-in-Some-take_spot
returns-in-Some-take_spot c =
    next_spot c.args.text.now c.in-Some.numbers.now c.in-Some-take_spot.spot c.in-Some-take_spot.rest.now c.in-Some.ensures c.in-Some-take_spot.ensures

pub returns-in-None : goal.returns-in-None
returns-in-None c = λ s rest at. c.in-None.ensures s rest (behind_space c.args.text.now c.in-Some.numbers.now s rest c.in-Some.ensures at)
