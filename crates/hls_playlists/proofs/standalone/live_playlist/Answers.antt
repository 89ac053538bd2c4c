-- All segments of the live line start below 2^53 microseconds in the rendition, so they can be made; the playlist made from them is the state's
-- live playlist.
use Rattle.std.proofs.Common.{◌<◌, ◌^◌, All, subst, Some, sym, ap, ◌∙◌}
use Rattle.hls_core_laws.specs.Config.{ConfigData}
use Rattle.hls_check_tables.specs.Tables.{spot_in}
use Rattle.hls_places_laws.specs.declared.line.live_segment.LiveSegment as live_line
use Rattle.hls_places_laws.specs.Line.Live.{Live, segments_of}
use Rattle.hls_m3u8.specs.Playlist.{Playlist}
use Rattle.hls_playlists_laws.proofs.Callers.{starts-small}
use Rattle.hls_playlists.proofs.LiveLists.{list-made}
use Rattle.hls_playlists.proofs.standalone.live_playlist.Goals as goal

pub make_live_segments-requires-clause-starts : goal.make_live_segments-requires-clause-starts
make_live_segments-requires-clause-starts c =
    let IsSmall : live_line.LiveSegment → Type 0 = λ x. (spot_in x.from.spots c.args.rendition).start < 2 ^ 53 in
    subst (λ (l : Live). All IsSmall (segments_of l)) (sym c.line.ensures.value)
    (starts-small c.args.snapshot.now c.find_listed_recording.ensures.valid c.args.rendition)

pub returns-clause-list : goal.returns-clause-list
returns-clause-list c =
    let made = list-made c.args.snapshot.now c.args.rendition c.in-Some.recording.now c.line.result.now c.epoch-epoch.result _ _
    c.line.ensures.value (c.epoch-epoch.ensures.value ∙ ap (λ (x : ConfigData). x.epoch) c.config.ensures.value) c.in_ok-uri.ensures c.in_ok-segments.ensures in
    ap (λ (x : Playlist). Some x) (c.make_live_playlist.ensures ∙ made) ∙ sym c.in-Some.ensures.list
