-- The path lists of two origins with one base that the same encoders feed agree, however far each has come.
use Rattle.hls_playlists_laws.proofs.HandedOver.{path-lists-agree}
use Rattle.hls_playlists_laws.proofs.path_laws.path_lists_agree.Goals as goal

pub returns : goal.returns
returns c = path-lists-agree
