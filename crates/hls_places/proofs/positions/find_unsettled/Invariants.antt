-- Before each round, each rendition so far is finished or has a fragment at its position.
use Rattle.std.proofs.Common.{ℕ, ◌<◌}
use Rattle.hls_places_laws.specs.Sources.{source_at}
use Rattle.hls_places_laws.specs.SearchPositions.{position_at}
use Rattle.hls_places.specs.Searches.{IsSettledAt}
use Rattle.hls_places.proofs.positions.find_unsettled.Given as goal

abbrev pub invariant-loop-r : goal.invariant-loop-r
invariant-loop-r l = (k : ℕ) → k < l.r → IsSettledAt (source_at l.renditions k) (position_at l.search_positions k)
