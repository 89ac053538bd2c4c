-- Without an epoch, no segment has a date.
use Rattle.hls_playlists_laws.proofs.Dates.{segments_are_undated}
use Rattle.hls_playlists_laws.proofs.segments.segments_are_undated.Goals as goal

pub returns : goal.returns
returns c = segments_are_undated
