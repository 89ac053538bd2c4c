-- A path of the first origin that begins at the cut or after it names the same units in the second origin.
use Rattle.hls_playlists_laws.proofs.HandedPaths.{named-here}
use Rattle.hls_playlists_laws.proofs.path_laws.paths_name_same_units_after_handover.Goals as goal

pub returns : goal.returns
returns c = named-here
