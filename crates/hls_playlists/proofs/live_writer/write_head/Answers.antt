-- The head of a playlist without segments is that of the served one, so with the rest it is the served playlist's text.
use Rattle.std.proofs.Common.{◌∙◌, ℕ, List, ◌++◌, ap}
use Rattle.hls_core_laws.specs.Base.{BaseData}
use Rattle.hls_core_laws.specs.Config.{ConfigData}
use Rattle.hls_m3u8.specs.Lines.{head_lines, text_of_lines}
use Rattle.hls_m3u8.specs.Playlist.{playlist_of}
use Rattle.hls_playlists.specs.LiveWriter.{list_over_segments}
use Rattle.hls_playlists.specs.MediaUris.{served_list}
use Rattle.hls_playlists.proofs.LiveTexts.{begun-text}
use Rattle.hls_playlists.proofs.live_writer.write_head.Goals as goal

pub returns : goal.returns
returns c =
    let s = c.args.served.snapshot.now in
    let r = c.args.served.rendition in
    let uris = c.args.served.uris in
    let recorded = c.in-Some.recording.now in
    let own = playlist_of c.make_live_playlist-own.result in
    let list = playlist_of c.in_ok-list.list in
    begun-text uris s r recorded c.in_ok-uri.uri c.push_head.new.out.items list c.in-Some.ensures.list c.in_ok-uri.ensures
    (c.in_ok-list.ensures
    ∙ (ap (λ (b : BaseData). served_list uris b r own) (c.base.ensures.value ∙ ap (λ (x : ConfigData). x.base) c.config.ensures.value)
    ∙ ap (served_list uris s.config.base r) (c.make_live_playlist-own.ensures ∙ ap (list_over_segments s recorded c.in_ok-uri.uri) c.new.ensures.items)))
    (c.in_ok-push_head.ensures ∙ ap (λ (t : List ℕ). t ++ text_of_lines (head_lines list)) c.in_ok-text.ensures.items)
