-- Without a base, a playlist's text is that of the process's own playlist.
use Rattle.hls_playlists_laws.proofs.BasedLists.{lists-without-base}
use Rattle.hls_playlists_laws.proofs.path_laws.lists_without_base_are_own.Goals as goal

pub returns : goal.returns
returns c = lists-without-base
