-- The playlist can be written: each live playlist of a state has a text.
use Rattle.std.proofs.Common.{◌∙◌, option_map, ap, sym}
use Rattle.hls_m3u8.specs.Playlist.{playlist_of}
use Rattle.hls_playlists_laws.proofs.Callers.{live-lists-have-texts}
use Rattle.hls_api_tests.proofs.lists.live_text.Goals as goal

pub write_media-requires : goal.write_media-requires
write_media-requires c =
    live-lists-have-texts c.args.snapshot.now c.args.rendition (playlist_of c.in-Some.list) c.in_ok-list.ensures.valid
    (sym c.in_ok-list.ensures.list ∙ ap (option_map playlist_of) c.in-Some.is)
