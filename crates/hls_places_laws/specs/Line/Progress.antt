-- The live line as places are added one at a time.
use Rattle.std.specs.Prelude.{ℕ, ◌+◌, Bool, nat_lt, if◌then◌else◌, List, [], ◌∷◌, ◌++◌, length, drop, Option, None, Some}
use Rattle.hls_places_laws.specs.declared.place.Place.{Place}
use Rattle.hls_places_laws.specs.declared.line.goal.LineGoal.{LineGoal}
use Rattle.hls_places_laws.specs.declared.line.live_segment.LiveSegment.{LiveSegment}
use Rattle.hls_places_laws.specs.declared.line.segment_start.SegmentStart.{SegmentStart}
use Rattle.hls_places_laws.specs.Line.Steps.{is_later_place, is_allowed, is_long_enough}
use Rattle.hls_places_laws.specs.Line.Cuts.{Line, start_at, restart_at, segment_to}

-- the line so far, and the best place: the last one that a segment from the open place reaches
pub record LineProgress : Type 0 where
  pub line : Line
  pub best : Option Place

-- no place was added yet
abbrev pub no_progress : LineProgress
no_progress = record { line = record { segments = []; segment_start = None }; best = None }

-- the progress with these closed segments, this start of the next segment, and this best place
abbrev pub progress_with : List LiveSegment → SegmentStart → Option Place → LineProgress
progress_with segments o best = record { line = record { segments = segments; segment_start = Some o }; best = best }

-- a segment precedes the next one: a kept one, or one that was removed from the front
abbrev pub has_earlier : ℕ → List LiveSegment → Bool
has_earlier removed segments = nat_lt 0 (removed + length segments)

-- the segments with one more at the end, from the open place to another place
abbrev pub closed_with : ℕ → List LiveSegment → SegmentStart → Place → List LiveSegment
closed_with removed segments o to = segments ++ segment_to (has_earlier removed segments) o to ∷ []

-- a place that isn't later than the open one is skipped; otherwise it closes the segment, becomes the best place, or is out of reach, in
-- which case the result is `stopped`
unfoldable pub progress_to : LineGoal → ℕ → List LiveSegment → SegmentStart → Option Place → Place → LineProgress → LineProgress
progress_to line_goal removed segments o best q stopped =
    (if is_later_place o.place q then
    (if is_allowed line_goal o.place q then
    (if is_long_enough line_goal o.place q then progress_with (closed_with removed segments o q) (start_at q) None else progress_with segments o (Some q))
    else stopped) else progress_with segments o best)

-- a place out of reach: the segment to the best place is closed and the place is tried again, or the line restarts
unfoldable pub progress_restarted_at : LineGoal → ℕ → List LiveSegment → SegmentStart → Option Place → Place → LineProgress
progress_restarted_at line_goal removed segments o None q = progress_with segments (restart_at q) None
progress_restarted_at line_goal removed segments o (Some b) q =
    progress_to line_goal removed (closed_with removed segments o b) (start_at b) None q
    (progress_with (closed_with removed segments o b) (restart_at q) None)

-- the progress after place q: the first place of all starts the first segment, each other one is tried as an end of the open segment
unfoldable pub progress_from : LineGoal → ℕ → List LiveSegment → Option SegmentStart → Option Place → Place → LineProgress
progress_from line_goal removed segments None best q = progress_with segments (start_at q) best
progress_from line_goal removed segments (Some o) best q =
    progress_to line_goal removed segments o best q (progress_restarted_at line_goal removed segments o best q)

-- the progress after one more place
abbrev pub progress_after : LineGoal → ℕ → LineProgress → Place → LineProgress
progress_after line_goal removed t q = progress_from line_goal removed t.line.segments t.line.segment_start t.best q

-- the progress after a list of places, added one after another
unfoldable pub advanced_through : LineGoal → ℕ → LineProgress → List Place → LineProgress
advanced_through line_goal removed t [] = t
advanced_through line_goal removed t (q ∷ rest) = advanced_through line_goal removed (progress_after line_goal removed t q) rest

-- the progress without the line's first n segments
abbrev pub progress_without : ℕ → LineProgress → LineProgress
progress_without n t = record { line = record { segments = drop n t.line.segments; segment_start = t.line.segment_start }; best = t.best }
