-- Before each round, the segments counted so far and those of the remaining walk that start at the time or before it are all such segments.
use Rattle.std.proofs.Common.{◌≡◌, ◌+◌, length}
use Rattle.hls_places_laws.specs.Line.Live.{segments_of}
use Rattle.hls_playlists.specs.StartTimes.{count_started}
use Rattle.hls_playlists.proofs.start_time.count_started.Given as goal

-- the count so far and that of the segments left are the whole count
abbrev pub invariant-loop-segment : goal.invariant-loop-segment
invariant-loop-segment l = record {
  left : l.count + length l.walk ≡ length (segments_of l.line);
  started : l.count + count_started l.us l.walk ≡ count_started l.us (segments_of l.line);
}

abbrev pub decreases-loop-segment : goal.decreases-loop-segment
decreases-loop-segment l = length l.walk
