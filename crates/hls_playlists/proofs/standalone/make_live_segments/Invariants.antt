-- Before each round, the segments made so far and those of the remaining walk are all segments of the line; each of the walk has a start below
-- 2^53.
use Rattle.std.proofs.Common.{◌≡◌, ◌++◌, ◌<◌, ◌^◌, length, map, All}
use Rattle.hls_check_tables.specs.Tables.{spot_in}
use Rattle.hls_places_laws.specs.Line.Live.{segments_of}
use Rattle.hls_playlists_laws.specs.Live.{live_media_segment}
use Rattle.hls_playlists_laws.specs.JobPlaylists.{job_layout}
use Rattle.hls_playlists.proofs.standalone.make_live_segments.Given as goal

abbrev pub invariant-loop-segment : goal.invariant-loop-segment
invariant-loop-segment l = record {
  starts : All (λ s. (spot_in s.from.spots l.rendition).start < 2 ^ 53) l.walk;
  made : l.list.items ++ map (live_media_segment (job_layout l.epoch l.recording l.rendition l.uri 0)) l.walk
      ≡ map (live_media_segment (job_layout l.epoch l.recording l.rendition l.uri 0)) (segments_of l.line);
}

abbrev pub decreases-loop-segment : goal.decreases-loop-segment
decreases-loop-segment l = length l.walk
