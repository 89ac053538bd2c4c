-- Before each round, the segments made so far and those of the remaining steps are all segments of the plan, and all places still to come are in
-- the table.
use Rattle.std.proofs.Common.{◌≡◌, ◌<◌, ◌++◌, false, length, drop, All}
use Rattle.hls_check_tables.specs.Tables.{IsTable}
use Rattle.hls_playlists_laws.specs.Segments.{plan_segments_from}
use Rattle.hls_playlists_laws.specs.JobPlaylists.{job_layout}
use Rattle.hls_playlists.proofs.segments.make_plan_segments.Given as goal

abbrev pub invariant-loop-to : goal.invariant-loop-to
invariant-loop-to l = record {
  valid : IsTable l.table;
  from_in : l.from < length l.table.places;
  rest_in : All (λ p. p < length l.table.places) l.rest;
  done : l.segments.items ++ plan_segments_from (job_layout l.epoch l.recording l.rendition l.uri l.first) l.table.places l.from l.mark (drop l.to-index l.rest)
      ≡ plan_segments_from (job_layout l.epoch l.recording l.rendition l.uri l.first) l.table.places l.initial.from false l.rest;
}
