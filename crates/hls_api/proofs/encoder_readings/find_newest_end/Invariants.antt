-- Before each round, the newest end is that of the other renditions so far.
use Rattle.std.proofs.Common.{◌≡◌}
use Rattle.hls_api.specs.Jumps.{newest_of_others}
use Rattle.hls_api.proofs.encoder_readings.find_newest_end.Given as goal

abbrev pub invariant-loop-other : goal.invariant-loop-other
invariant-loop-other l = l.newest ≡ newest_of_others l.snapshot l.rendition l.other
