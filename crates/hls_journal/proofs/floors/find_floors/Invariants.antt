-- Before each round, the floors of the 256 renditions are the highest that the records so far trim them to.
use Rattle.hls_journal.proofs.HighestFloors.{AreFloors}
use Rattle.hls_journal.proofs.floors.find_floors.Given as goal

abbrev pub invariant-loop-body : goal.invariant-loop-body
invariant-loop-body l = AreFloors l.bodies l.body-index l.floors.items
