-- Before each round there is one length for each rendition so far: the earlier length plus the new segment's.
use Rattle.std.proofs.Common.{◌≡◌, ℕ, ◌+◌, ◌<◌, length, get_or}
use Rattle.hls_places_laws.specs.Line.Lengths.{length_in}
use Rattle.hls_live.proofs.prefix_sums.extend_lengths.Given as goal

abbrev pub invariant-loop-r : goal.invariant-loop-r
invariant-loop-r l = record {
  count : length l.lengths.items ≡ l.r;
  each : (k : ℕ) → k < l.r → get_or l.lengths.items k 0 ≡ get_or l.before k 0 + length_in k l.segment;
}
