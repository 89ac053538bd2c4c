-- Before each round, the rendition found is the first one, among those so far, whose encoder is there.
use Rattle.std.proofs.Common.{◌≡◌}
use Rattle.hls_housekeeper.specs.Away.{first_of, is_present}
use Rattle.hls_housekeeper.proofs.away.find_present.Given as goal

abbrev pub invariant-loop-rendition : goal.invariant-loop-rendition
invariant-loop-rendition l = l.found ≡ first_of (is_present l.snapshot l.silent) l.rendition
