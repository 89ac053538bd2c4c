-- Before each round, the copy has the bytes of the resource from `a` up to `at`, which is at most `b`. Each round comes nearer to `b`.
use Rattle.std.proofs.Common.{◌≡◌, ◌-◌, ◌≤◌, map, take, drop, Some}
use Rattle.hls_record.specs.RecordingData.{bytes_of}
use Rattle.hls_record.proofs.recording.Recording.copy_bytes.Given as goal

abbrev pub invariant-loop-at : goal.invariant-loop-at
invariant-loop-at l = record {
  low : l.a ≤ l.at;
  high : l.at ≤ l.b;
  bytes : map Some l.all.items ≡ take (l.at - l.a) (drop l.a (bytes_of l.self));
}

abbrev pub decreases-loop-at : goal.decreases-loop-at
decreases-loop-at l = l.b - l.at
