-- The parts of a live line as contracts see them, and their invariants. For the proofs of this crate; no public clause cites it.
use Rattle.std.specs.Prelude.{◌≡◌, ℕ, ◌<◌, ◌≤◌, true, [], length, None, Some}
use Rattle.hls_places_laws.specs.declared.place.Place.{Place}
use Rattle.hls_places_laws.specs.declared.line.segment_start.SegmentStart.{SegmentStart}
use Rattle.hls_places_laws.specs.Line.Steps.{is_allowed}
use Rattle.hls_places_laws.specs.Line.Live.{Live}
use Rattle.hls_places_laws.specs.Line.Lengths.{renditions_of}
use Rattle.hls_live.specs.declared.live_line.LiveLine.TheInside.{Inside}
use Rattle.hls_live.specs.declared.kept_segments.KeptSegments.{KeptSegments}
use Rattle.hls_live.specs.PrefixSums.{AreSums}
use Rattle.hls_check_tables.specs.Tables.{target_limit}

-- a live line as contracts see it: its goal, segments, open place and best place, and the numbers of removed segments and marks
abbrev pub model_of : Inside → Live
model_of i = record {
  line_goal = i.line_goal;
  progress = record { line = record { segments = i.kept.segments.items; segment_start = i.segment_start }; best = i.best };
  removed = i.kept.segments.first;
  breaks = i.kept.breaks;
}

-- the invariant of the kept segments, for the given number of renditions
pub record AreKept (renditions : ℕ) (k : KeptSegments) : Type 0 where
  pub first : k.sums.first ≡ k.segments.first
  pub sums : AreSums k.segments.first k.breaks renditions k.segments.items k.sums.items
  pub breaks : k.breaks ≤ k.segments.first

-- a line's invariant: its segments fit the open place; without one there is no segment and no best place; a segment may reach the best place
pub record IsSoundLine (i : Inside) : Type 0 where
  pub target : i.line_goal.target ≤ target_limit
  pub kept : AreKept (renditions_of i.segment_start) i.kept
  pub no_segment : i.segment_start ≡ None → i.kept.segments.items ≡ []
  pub some : (o : SegmentStart) → i.segment_start ≡ Some o → 0 < length o.place.spots
  pub no_best : i.segment_start ≡ None → i.best ≡ None
  pub best : (o : SegmentStart) (b : Place) → i.segment_start ≡ Some o → i.best ≡ Some b → is_allowed i.line_goal o.place b ≡ true
