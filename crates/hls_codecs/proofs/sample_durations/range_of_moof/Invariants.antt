-- Before each round, the range is the one that the remaining track fragments of the first eight give.
use Rattle.std.proofs.Common.{◌≡◌, ◌-◌, ◌≤◌}
use Rattle.hls_codecs.specs.FrameRates.{range_from}
use Rattle.hls_codecs.proofs.sample_durations.range_of_moof.Given as goal

abbrev pub invariant-fragments : goal.invariant-fragments
invariant-fragments l = record {
  value : range_from (8 - l.n) l.n l.track l.moof ≡ range_from 8 0 l.track l.fn.moof;
  few : l.n ≤ 8;
}

abbrev pub decreases-fragments : goal.decreases-fragments
decreases-fragments l = 8 - l.n
