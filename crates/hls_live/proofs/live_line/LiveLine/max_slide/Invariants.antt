-- A binary search: removing `low` segments leaves enough, or `low` is 0; removing `high` or more never does.
use Rattle.std.proofs.Common.{ℕ, ◌+◌, ◌-◌, ◌<◌, ◌≤◌, length}
use Rattle.hls_places_laws.specs.Line.Upkeep.{LineLeaves}
use Rattle.hls_live.proofs.live_line.LiveLine.max_slide.Given as goal

abbrev pub invariant-loop-high : goal.invariant-loop-high
invariant-loop-high l = record {
  leaves : 0 < l.low → LineLeaves l.self l.window l.low;
  most : (m : ℕ) → LineLeaves l.self l.window m → m < l.high;
  order : l.low < l.high;
  within : l.high ≤ length l.self.progress.line.segments + 1;
}

abbrev pub decreases-loop-high : goal.decreases-loop-high
decreases-loop-high l = l.high - l.low
