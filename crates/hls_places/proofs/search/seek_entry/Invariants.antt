-- The position counts the gaps up to its fragment, and no fragment before it is an entry.
use Rattle.std.proofs.Common.{◌-◌}
use Rattle.hls_places.specs.Searches.{IsRunAt, NoEntryBefore}
use Rattle.hls_places.proofs.search.seek_entry.Given as goal

abbrev pub invariant-loop-search_position : goal.invariant-loop-search_position
invariant-loop-search_position l = record {
  run : IsRunAt l.recording.facts l.search_position;
  early : NoEntryBefore l.low l.recording.facts l.search_position;
}

abbrev pub decreases-loop-search_position : goal.decreases-loop-search_position
decreases-loop-search_position l = l.count - l.search_position.at
