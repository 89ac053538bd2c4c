-- With an epoch, the date of each segment of a plan is the instant of its start, rounded down to whole milliseconds.
use Rattle.hls_playlists_laws.proofs.Dates.{segments_are_dated}
use Rattle.hls_playlists_laws.proofs.segments.segments_are_dated.Goals as goal

pub returns : goal.returns
returns c = segments_are_dated
