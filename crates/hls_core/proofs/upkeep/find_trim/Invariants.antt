-- Before each round, no rendition so far has units that are kept before the place.
use Rattle.hls_core.specs.TrimPlaces.{ReachedBefore}
use Rattle.hls_core.proofs.upkeep.find_trim.Given as goal

abbrev pub invariant-loop-rendition : goal.invariant-loop-rendition
invariant-loop-rendition l = record { before : ReachedBefore l.snapshot l.cut l.rendition }
