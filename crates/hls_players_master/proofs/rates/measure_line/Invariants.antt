-- Before each round, the measure so far and the remaining segments give the measure of the newest segments. Each segment adds limited bytes and
-- microseconds, and there are at most 256; so the sums can't overflow.
use Rattle.std.proofs.Common.{◌≡◌, ◌+◌, ◌*◌, ◌^◌, ◌≤◌, length}
use Rattle.std.specs.List.{fold}
use Rattle.hls_places_laws.specs.Line.Live.{segments_of}
use Rattle.hls_players_master.specs.Rates.{and_segment, nothing_measured, newest}
use Rattle.hls_players_master.proofs.rates.measure_line.Given as goal

abbrev pub invariant-loop-segment : goal.invariant-loop-segment
invariant-loop-segment l = record {
  value : fold (and_segment l.recording l.rendition) l.measure l.walk ≡ fold (and_segment l.recording l.rendition) nothing_measured (newest (segments_of l.line));
  bytes : l.measure.bytes + length l.walk * 2 ^ 40 ≤ 256 * 2 ^ 40;
  us : l.measure.us + length l.walk * 2 ^ 64 ≤ 256 * 2 ^ 64;
}

abbrev pub decreases-loop-segment : goal.decreases-loop-segment
decreases-loop-segment l = length l.walk
