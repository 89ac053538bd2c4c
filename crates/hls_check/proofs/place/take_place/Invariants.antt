-- Before each round, the text begins with the spots read so far, and any place line at its start continues in the rest.
use Rattle.hls_check.proofs.PlaceTexts.{SpotsRead}
use Rattle.hls_check.proofs.place.take_place.Given as goal

abbrev pub invariant-loop-r : goal.invariant-loop-r
invariant-loop-r l = SpotsRead l.renditions l.text l.spots.items l.rest l._r
