-- Before each round, the playlists so far and those of the remaining renditions are all playlists of the job; the recordings used so far are
-- valid.
use Rattle.std.proofs.Common.{◌≡◌, ◌++◌, map, take, drop, All}
use Rattle.hls_record.specs.IsRecorded.{IsRecorded}
use Rattle.hls_m3u8.specs.Playlist.{playlist_of}
use Rattle.hls_playlists_laws.specs.JobPlaylists.{job_lists}
use Rattle.hls_playlists.proofs.job_playlists.make_job_lists.Given as goal

abbrev pub invariant-loop-rendition : goal.invariant-loop-rendition
invariant-loop-rendition l = record {
  done : map playlist_of l.lists.items ++ job_lists l.epoch l.rendition (map (λ r. r.now) (drop l.rendition l.recordings)) l.table l.plan
      ≡ job_lists l.epoch 0 (map (λ r. r.now) l.recordings) l.table l.plan;
  valid : All (λ r. IsRecorded r.now) (take l.rendition l.recordings);
}
