-- The segments of a table's plan fit the target duration, and they can be written.
use Rattle.hls_playlists_laws.proofs.Good.{segments_are_good}
use Rattle.hls_playlists_laws.proofs.segments.segments_are_good.Goals as goal

pub returns : goal.returns
returns c = segments_are_good
