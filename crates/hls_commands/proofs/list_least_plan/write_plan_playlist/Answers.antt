-- The playlist by a plan of the table has a text (`plan_has_text`), and its parts are those that were computed.
use Rattle.std.proofs.Common.{List, ℕ, length, subst, sym}
use Rattle.hls_m3u8.specs.declared.playlist.MediaSegment.{MediaSegment}
use Rattle.hls_m3u8.specs.HasText.{HasText}
use Rattle.hls_m3u8.specs.PlaylistForms.{vod_list}
use Rattle.hls_playlists_laws.specs.Segments.{plan_segments}
use Rattle.hls_playlists_laws.specs.JobPlaylists.{job_layout}
use Rattle.hls_commands.proofs.Good.{plan_has_text, plan_within}
use Rattle.hls_commands.proofs.list_least_plan.write_plan_playlist.Goals as goal

pub make_plan_segments-requires-clause-plan : goal.make_plan_segments-requires-clause-plan
make_plan_segments-requires-clause-plan c = plan_within c.args.table.now c.args.plan.now c.requires.table c.requires.plan

pub write_vod_playlist-requires : goal.write_vod_playlist-requires
write_vod_playlist-requires c =
    let r = c.args.recording.now in
    let t = c.args.table.now in
    let good : HasText (vod_list t.goal.target c.args.uri.now (length r.head) (plan_segments (job_layout c.args.epoch r 0 c.args.uri.now 0) t.places c.args.plan.now)) =
    plan_has_text c.args.epoch r c.args.uri.now t c.args.plan.now c.requires.epoch c.requires.recorded c.requires.uri c.requires.table c.requires.plan c.requires.ever in
    subst (λ (n : ℕ). HasText (vod_list n c.in_ok-uri.uri (length r.head) c.in_ok-segments.segments.items)) (sym c.target.ensures)
    (subst (λ (ss : List MediaSegment). HasText (vod_list t.goal.target c.in_ok-uri.uri (length r.head) ss)) (sym c.in_ok-segments.ensures)
    (subst (λ (u : List ℕ). HasText (vod_list t.goal.target u (length r.head) (plan_segments (job_layout c.args.epoch r 0 u 0) t.places c.args.plan.now))) (sym c.in_ok-uri.ensures) good))
