-- The playlist has a text since each place reaches the next (`each_has_text`), and its parts are those that were computed.
use Rattle.std.proofs.Common.{List, ℕ, length, refl, subst, sym, arith}
use Rattle.hls_m3u8.specs.declared.playlist.MediaSegment.{MediaSegment}
use Rattle.hls_m3u8.specs.HasText.{HasText}
use Rattle.hls_m3u8.specs.PlaylistForms.{vod_list}
use Rattle.hls_playlists_laws.specs.Segments.{plan_segments}
use Rattle.hls_playlists_laws.specs.JobPlaylists.{job_layout}
use Rattle.hls_places_laws.specs.Order.{spots_of}
use Rattle.hls_commands.specs.Each.{full_plan}
use Rattle.hls_commands.proofs.Good.{each_has_text}
use Rattle.hls_commands.proofs.Whole.{one_each, none_past, length_spots}
use Rattle.hls_commands.proofs.ListTexts.{written_by}
use Rattle.hls_commands.proofs.list_each.list_each.Goals as goal

pub write_vod_playlist-requires : goal.write_vod_playlist-requires
write_vod_playlist-requires c =
    let r = c.args.recording.now in
    let spots = spots_of c.args.places.now.items in
    let good : HasText (vod_list c.args.target c.args.uri.now (length r.head) (plan_segments (job_layout c.args.epoch r 0 c.args.uri.now 0) spots (full_plan spots))) =
    each_has_text c.args.epoch r c.args.target c.args.uri.now spots c.requires.epoch c.requires.places.valid c.requires.target c.requires.uri
    (one_each c.args.places.now.items c.requires.places.ordered c.requires.places.single)
    (none_past r c.args.places.now.items c.requires.places) c.in_default.ensures in
    subst (λ (ss : List MediaSegment). HasText (vod_list c.args.target c.in_ok-uri.uri (length r.head) ss)) (sym c.in_ok-segments.ensures)
    (subst (λ (u : List ℕ). HasText (vod_list c.args.target u (length r.head) (plan_segments (job_layout c.args.epoch r 0 u 0) spots (full_plan spots)))) (sym c.in_ok-uri.ensures) good)

pub returns : goal.returns
returns c =
    let places = spots_of c.args.places.now.items in (
      omega (arith, c.requires.count.0, length_spots c.args.places.now.items),
      c.in_default.ensures,
      written_by c.args.epoch c.args.recording.now c.args.target c.args.target c.args.uri.now c.in_ok-uri.uri c.in_ok-segments.segments.items places
          (full_plan places) c.in_ok-text.text.items refl c.in_ok-uri.ensures c.in_ok-segments.ensures c.in_ok-text.ensures,
    )
