-- Before each round, the position counts the gaps up to the fragment before it. It comes nearer to the end.
use Rattle.std.proofs.Common.{◌-◌}
use Rattle.hls_places.specs.Searches.{IsRunAt}
use Rattle.hls_places.proofs.search.end_position.Given as goal

abbrev pub invariant-loop-search_position : goal.invariant-loop-search_position
invariant-loop-search_position l = IsRunAt l.recording.facts l.search_position

abbrev pub decreases-loop-search_position : goal.decreases-loop-search_position
decreases-loop-search_position l = l.count - l.search_position.at
