-- The cursor fits the renditions, and the places so far, followed by those at the fragments that are left, are those at all fragments from the
-- start.
use Rattle.std.proofs.Common.{◌≡◌, ◌-◌, ◌++◌, drop}
use Rattle.std.specs.List.{filter_map}
use Rattle.hls_places_laws.specs.Sources.{first_facts}
use Rattle.hls_places_laws.specs.Places.{common_at}
use Rattle.hls_places_laws.specs.SearchPositions.{IsCursor}
use Rattle.hls_places.proofs.cursor.find_places.Given as goal

abbrev pub invariant-loop-done : goal.invariant-loop-done
invariant-loop-done l = record {
  cursor : IsCursor (record { done = l.done; search_positions = l.search_positions.items }) l.renditions;
  told : l.places.items ++ filter_map (common_at l.renditions) (drop l.done (first_facts l.renditions))
      ≡ filter_map (common_at l.renditions) (drop l.initial.done (first_facts l.renditions));
}

abbrev pub decreases-loop-done : goal.decreases-loop-done
decreases-loop-done l = l.count - l.done
