-- Before each round, no more bytes were written than given. Each round leaves fewer to write.
use Rattle.std.proofs.Common.{◌-◌, ◌≤◌, length}
use Rattle.hls_journal_store.proofs.media_track.MediaTrack.write.Given as goal

abbrev pub invariant-spans : goal.invariant-spans
invariant-spans g l = l.done ≤ length l.bytes

abbrev pub decreases-spans : goal.decreases-spans
decreases-spans g l = length l.bytes - l.done
