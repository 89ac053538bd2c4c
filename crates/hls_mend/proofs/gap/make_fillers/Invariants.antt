-- The fillers made and those that may follow from `next` are all fillers of the gap, and each one made is a unit.
use Rattle.std.proofs.Common.{◌≡◌, ◌++◌}
use Rattle.std.specs.Prelude.{All}
use Rattle.hls_media_laws.specs.IsInitOrUnit.{IsUnit}
use Rattle.hls_mend.specs.MendedUnits.{fillers_from, source_view}
use Rattle.hls_mend.proofs.gap.make_fillers.Given as goal

abbrev pub invariant-fillers : goal.invariant-fillers
invariant-fillers l = record {
  same : l.fillers.items ++ fillers_from l.left l.init (source_view l.source) l.len l.next l.end ≡ fillers_from 64 l.init (source_view l.source) l.len l.start l.end;
  valid : All (λ u. IsUnit l.init u.bytes u.facts) l.fillers.items;
}

abbrev pub decreases-fillers : goal.decreases-fillers
decreases-fillers l = l.left
