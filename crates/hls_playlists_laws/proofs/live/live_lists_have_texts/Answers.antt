-- Each live playlist of a state has a text, so it can be written.
use Rattle.hls_playlists_laws.proofs.Texts.{live-lists-have-texts}
use Rattle.hls_playlists_laws.proofs.live.live_lists_have_texts.Goals as goal

pub returns : goal.returns
returns c = live-lists-have-texts
