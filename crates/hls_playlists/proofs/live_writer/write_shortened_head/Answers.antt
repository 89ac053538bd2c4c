-- The head counts the marks of the first n segments, so that with the rest it is the shortened playlist's text.
use Rattle.std.proofs.Common.{◌∙◌, ℕ, List, ◌++◌, ap, arith}
use Rattle.hls_places_laws.specs.Line.Lengths.{marks_in}
use Rattle.hls_places_laws.specs.Line.Live.{Live, segments_of}
use Rattle.hls_core_laws.specs.Base.{BaseData}
use Rattle.hls_core_laws.specs.Config.{ConfigData}
use Rattle.hls_core_laws.specs.Line.{line}
use Rattle.hls_m3u8.specs.Lines.{head_lines, text_of_lines}
use Rattle.hls_m3u8.specs.Playlist.{Playlist, playlist_of}
use Rattle.hls_playlists.specs.LiveWriter.{list_over_segments, shortened_head}
use Rattle.hls_playlists.specs.MediaUris.{served_list}
use Rattle.hls_playlists.proofs.ShortTexts.{begun-short, breaks-few}
use Rattle.hls_playlists.proofs.live_writer.write_shortened_head.Goals as goal

pub shorten_head-own-requires-clause-few : goal.shorten_head-own-requires-clause-few
shorten_head-own-requires-clause-few c =
    let marks = ap (λ (p : Playlist). p.discontinuity_sequence) c.make_live_playlist-whole.ensures in
    let removed = ap (λ (l : Live). l.removed) c.line.ensures.value in
    omega (arith, marks, removed, breaks-few c.args.served.snapshot.now c.find_listed_recording.ensures.valid)

pub returns : goal.returns
returns c =
    let s = c.args.served.snapshot.now in
    let r = c.args.served.rendition in
    let uris = c.args.served.uris in
    let n = c.args.left_out in
    let kind = c.args.kind in
    let recorded = c.in-Some.recording.now in
    let whole = playlist_of c.make_live_playlist-whole.result in
    let own = playlist_of c.shorten_head-own.result in
    let list = playlist_of c.in_ok-list.list in
    begun-short s c.find_listed_recording.ensures.valid r recorded c.in-Some.ensures.list n c.requires uris kind c.in_ok-uri.uri c.push_head.new.out.items list c.in_ok-uri.ensures
    (c.in_ok-list.ensures
    ∙ (ap (λ (b : BaseData). served_list uris b r own) (c.base.ensures.value ∙ ap (λ (x : ConfigData). x.base) c.config.ensures.value)
    ∙ ap (served_list uris s.config.base r) (c.shorten_head-own.ensures.value
    ∙ (ap (λ (l : Live). shortened_head kind n (marks_in n (segments_of l)) whole) c.line.ensures.value
    ∙ ap (shortened_head kind n (marks_in n (segments_of (line s)))) (c.make_live_playlist-whole.ensures ∙ ap (list_over_segments s recorded c.in_ok-uri.uri) c.new.ensures.items)))))
    (c.in_ok-push_head.ensures ∙ ap (λ (t : List ℕ). t ++ text_of_lines (head_lines list)) c.in_ok-text.ensures.items)
