-- The text of a playlist whose parts were computed.
use Rattle.std.proofs.Common.{◌≡◌, ℕ, ℤ, Option, List, length, subst}
use Rattle.hls_record.specs.RecordingData.{RecordingData}
use Rattle.hls_check_tables.specs.declared.spot.Spot.{Spot}
use Rattle.hls_m3u8.specs.declared.playlist.MediaSegment.{MediaSegment}
use Rattle.hls_m3u8.specs.PlaylistForms.{vod_list}
use Rattle.hls_m3u8.specs.Written.{IsWritten}
use Rattle.hls_playlists_laws.specs.Segments.{plan_segments}
use Rattle.hls_playlists_laws.specs.JobPlaylists.{job_layout}
use Rattle.hls_commands.specs.Each.{plan_list}

-- the text of the playlist whose target duration, name and segments were computed is that of the playlist by the plan
pub written_by : (epoch : Option ℤ) (r : RecordingData) (target seconds : ℕ) (uri name : List ℕ) (segments : List MediaSegment) (places : List (List Spot))
    (plan text : List ℕ) → seconds ≡ target → name ≡ uri → segments ≡ plan_segments (job_layout epoch r 0 name 0) places plan →
    IsWritten (vod_list seconds name (length r.head) segments) text → IsWritten (plan_list target epoch r uri places plan) text
written_by epoch r target seconds uri name segments places plan text seconds_is name_is segments_are written =
    subst (λ (n : ℕ). IsWritten (vod_list n uri (length r.head) (plan_segments (job_layout epoch r 0 uri 0) places plan)) text) seconds_is
    (subst (λ (u : List ℕ). IsWritten (vod_list seconds u (length r.head) (plan_segments (job_layout epoch r 0 u 0) places plan)) text) name_is
    (subst (λ (ss : List MediaSegment). IsWritten (vod_list seconds name (length r.head) ss) text) segments_are written))
