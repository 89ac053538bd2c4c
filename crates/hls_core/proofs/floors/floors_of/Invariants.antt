-- Before each round, the floors of the renditions so far are right; there is room for as many renditions as a channel may have.
use Rattle.std.proofs.Common.{◌≡◌, length, take}
use Rattle.hls_core_laws.specs.Places.{floors}
use Rattle.hls_core.proofs.floors.floors_of.Given as goal
use Rattle.hls_check_tables.specs.Tables.{rendition_limit}

abbrev pub invariant-loop-rendition : goal.invariant-loop-rendition
invariant-loop-rendition l = record {
  long : length l.floors ≡ rendition_limit;
  done : take l.rendition l.floors ≡ take l.rendition (floors l.snapshot);
}
