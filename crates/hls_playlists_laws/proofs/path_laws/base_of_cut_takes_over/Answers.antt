-- A channel that continues another one at a cut, with the base of that cut, takes it over.
use Rattle.hls_playlists_laws.proofs.CutBases.{cut-takes-over}
use Rattle.hls_playlists_laws.proofs.path_laws.base_of_cut_takes_over.Goals as goal

pub returns : goal.returns
returns c = cut-takes-over
