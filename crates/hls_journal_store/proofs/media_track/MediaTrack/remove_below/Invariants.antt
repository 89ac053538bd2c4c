-- The loop ends: after each round the first file that may be left has a higher number.
use Rattle.std.proofs.Common.{◌-◌}
use Rattle.hls_journal_store.proofs.media_track.MediaTrack.remove_below.Given as goal

abbrev pub decreases-files : goal.decreases-files
decreases-files g l = l.end - l.self.first
