-- Before each round, the marks counted so far and those of the remaining segments are the marks of the first `n`; there are at most as many as
-- segments passed.
use Rattle.std.proofs.Common.{◌≡◌, ◌+◌, ◌-◌, ◌≤◌, length}
use Rattle.hls_places_laws.specs.Line.Lengths.{marks_in}
use Rattle.hls_places_laws.specs.Line.Live.{segments_of}
use Rattle.hls_playlists.proofs.live_writer.count_marks.Given as goal

-- the marks so far and those of the segments left are the marks of the first n
abbrev pub invariant-loop-next : goal.invariant-loop-next
invariant-loop-next l = record {
  within : l.next ≤ l.n;
  left : l.n - l.next ≤ length l.walk;
  few : l.marks ≤ l.next;
  marks : l.marks + marks_in (l.n - l.next) l.walk ≡ marks_in l.n (segments_of l.line);
}

abbrev pub decreases-loop-next : goal.decreases-loop-next
decreases-loop-next l = l.n - l.next
