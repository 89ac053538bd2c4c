-- Playlists with the base of another channel's cut agree with that channel's, however far each has come; so a player may be moved to and fro.
use Rattle.hls_playlists_laws.proofs.HandedOver.{agree-on}
use Rattle.hls_playlists_laws.proofs.path_laws.handed_over_lists_agree.Goals as goal

pub returns : goal.returns
returns c = agree-on
