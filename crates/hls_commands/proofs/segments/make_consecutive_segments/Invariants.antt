-- The segments made and those along the places still to come are the segments along all places.
use Rattle.std.proofs.Common.{◌≡◌, ◌++◌, All, false, length}
use Rattle.hls_check_tables.specs.Tables.{IsPlaceOf}
use Rattle.hls_places_laws.specs.Order.{spots_of}
use Rattle.hls_playlists_laws.specs.JobPlaylists.{job_layout}
use Rattle.hls_commands.proofs.Walked.{along}
use Rattle.hls_commands.proofs.segments.make_consecutive_segments.Given as goal

abbrev pub invariant-loop-to : goal.invariant-loop-to
invariant-loop-to l = record {
  one : IsPlaceOf 1 l.from.spots;
  ones : All (IsPlaceOf 1) (spots_of l.walk);
  done : l.segments.items ++ along (job_layout l.epoch l.recording 0 l.uri 0) l.mark l.from.spots (spots_of l.walk)
      ≡ along (job_layout l.epoch l.recording 0 l.uri 0) false l.initial.from.spots (spots_of l.initial.walk);
}

abbrev pub decreases-loop-to : goal.decreases-loop-to
decreases-loop-to l = length l.walk
