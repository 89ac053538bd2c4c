-- The units that remain reach back if and only if the last 4096 units of the recording do.
use Rattle.std.proofs.Common.{◌≡◌, ◌≤◌, length}
use Rattle.hls_api.specs.GapLimits.{reaches_back}
use Rattle.hls_api.proofs.gap_limit.reaches_back.Given as goal

abbrev pub invariant-units : goal.invariant-units
invariant-units l = record {
  within : l.count ≤ length l.recording.facts;
  same : reaches_back l.left l.recording.facts l.from_us l.count ≡ reaches_back 4096 l.recording.facts l.from_us (length l.recording.facts);
}

abbrev pub decreases-units : goal.decreases-units
decreases-units l = l.left
