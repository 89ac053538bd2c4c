-- One place added to a line, without trying it again after the best place. For the proofs of this crate; no public clause cites it.
use Rattle.std.specs.Prelude.{ℕ, List, Option, None, Some}
use Rattle.hls_places_laws.specs.declared.place.Place.{Place}
use Rattle.hls_places_laws.specs.declared.line.goal.LineGoal.{LineGoal}
use Rattle.hls_places_laws.specs.declared.line.live_segment.LiveSegment.{LiveSegment}
use Rattle.hls_places_laws.specs.declared.line.segment_start.SegmentStart.{SegmentStart}
use Rattle.hls_places_laws.specs.Line.Cuts.{start_at, restart_at}
use Rattle.hls_places_laws.specs.Line.Progress.{LineProgress, closed_with, progress_with, progress_to}
use Rattle.hls_places_laws.specs.Line.Live.{Live}
use Rattle.hls_live.specs.declared.kept_segments.KeptSegments.{KeptSegments}

-- the progress after place q, where a place out of reach restarts the line even if there is a best place
abbrev pub advance_from : LineGoal → ℕ → List LiveSegment → Option SegmentStart → Option Place → Place → LineProgress
advance_from line_goal removed segments None best q = progress_with segments (start_at q) None
advance_from line_goal removed segments (Some o) best q = progress_to line_goal removed segments o best q (progress_with segments (restart_at q) None)

-- the progress of a live line after place q is added once, without trying it again after the best place
abbrev pub advance_once : Live → Place → LineProgress
advance_once live q = advance_from live.line_goal live.removed live.progress.line.segments live.progress.line.segment_start live.progress.best q

-- the live line with another progress
abbrev pub with_progress : Live → LineProgress → Live
with_progress live progress = record { line_goal = live.line_goal; progress = progress; removed = live.removed; breaks = live.breaks }

-- the live line with other kept segments
abbrev pub with_kept : Live → KeptSegments → Live
with_kept live kept = record {
  line_goal = live.line_goal;
  progress = record { line = record { segments = kept.segments.items; segment_start = live.progress.line.segment_start }; best = live.progress.best };
  removed = kept.segments.first;
  breaks = kept.breaks;
}

-- the live line after its open segment was closed at a place, where the next one begins
abbrev pub with_closed : Live → SegmentStart → Place → Live
with_closed live o to = with_progress live (progress_with (closed_with live.removed live.progress.line.segments o to) (start_at to) None)
