-- Before each round, the spots so far and those of the places that remain are the spots of all places. The remaining places get fewer.
use Rattle.std.proofs.Common.{◌≡◌, ◌++◌, length}
use Rattle.hls_places_laws.specs.Order.{spots_of}
use Rattle.hls_commands.proofs.table.build_table.Given as goal

abbrev pub invariant-loop-place : goal.invariant-loop-place
invariant-loop-place l = l.spots.items ++ spots_of l.walk ≡ spots_of l.places.items

abbrev pub decreases-loop-place : goal.decreases-loop-place
decreases-loop-place l = length l.walk
