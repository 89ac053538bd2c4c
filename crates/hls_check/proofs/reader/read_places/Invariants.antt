-- Before each round, the places are those of the place lines read so far, one for each line.
use Rattle.hls_check.proofs.Wrongs.{PlacesRead}
use Rattle.hls_check.proofs.reader.read_places.Given as goal

abbrev pub invariant-loop-p : goal.invariant-loop-p
invariant-loop-p l = PlacesRead l.head l.initial.rest l.places.items l.rest l.p
