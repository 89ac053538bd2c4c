-- The first r positions were advanced to the first entries, and the others are unchanged.
use Rattle.std.proofs.Common.{◌≡◌, ℕ, ◌-◌, ◌<◌, ◌≤◌}
use Rattle.hls_places_laws.specs.Sources.{source_at}
use Rattle.hls_places_laws.specs.SearchPositions.{position_at}
use Rattle.hls_places.specs.Searches.{IsAtEntry}
use Rattle.hls_places.proofs.positions.seek_entries.Given as goal

abbrev pub invariant-loop-r : goal.invariant-loop-r
invariant-loop-r l = record {
  moved : (k : ℕ) → k < l.r → IsAtEntry (l.time - (source_at l.renditions k).tolerance) (source_at l.renditions k).facts (position_at l.search_positions k);
  rest : (k : ℕ) → l.r ≤ k → position_at l.search_positions k ≡ position_at l.initial.search_positions k;
}
