-- Before each round, the sources so far are those of the first renditions, in order.
use Rattle.std.proofs.Common.{◌≡◌, map, take}
use Rattle.hls_places_laws.specs.Sources.{sources_of}
use Rattle.hls_places.proofs.standalone.make_sources.Given as goal

abbrev pub invariant-loop-r : goal.invariant-loop-r
invariant-loop-r l = l.sources.items ≡ take l.r (sources_of (map (λ r. r.now.facts) l.recordings) l.tolerances l.finished)
