-- By whatever plan a table is cut, the segments' bytes, joined, are exactly the units of the programme, each once.
use Rattle.hls_playlists_laws.proofs.JoinedMedia.{media_are_the_units}
use Rattle.hls_playlists_laws.proofs.segments.segments_tile_the_units.Goals as goal

pub returns : goal.returns
returns c = media_are_the_units
