-- Before each round, all renditions have ended if and only if the remaining ones have.
use Rattle.std.proofs.Common.{◌≡◌, drop}
use Rattle.std.specs.List.{list_all}
use Rattle.hls_places_laws.specs.Places.{has_ended}
use Rattle.hls_places.proofs.closing_place.have_all_ended.Given as goal

abbrev pub invariant-loop-r : goal.invariant-loop-r
invariant-loop-r l = list_all has_ended (drop l.r l.renditions) ≡ list_all has_ended l.renditions
