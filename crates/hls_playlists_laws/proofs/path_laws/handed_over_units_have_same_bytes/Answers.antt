-- Units that a path names before and after a handover have the same bytes in both channels, if encoders sent both the same units.
use Rattle.hls_playlists_laws.proofs.HandedPaths.{same-bytes-there}
use Rattle.hls_playlists_laws.proofs.path_laws.handed_over_units_have_same_bytes.Goals as goal

pub returns : goal.returns
returns c = same-bytes-there
