-- The search for at most `left` units back from the first `count` finds what the search among all does.
use Rattle.std.proofs.Common.{◌≡◌, ◌≤◌, length}
use Rattle.hls_mend.specs.MendedUnits.{last_sync}
use Rattle.hls_mend.proofs.gap.find_last_sync.Given as goal

abbrev pub invariant-units : goal.invariant-units
invariant-units l = record {
  within : l.count ≤ length l.recording.facts;
  same : last_sync l.left l.recording.facts l.count ≡ last_sync 4096 l.recording.facts (length l.recording.facts);
}

abbrev pub decreases-units : goal.decreases-units
decreases-units l = l.left
