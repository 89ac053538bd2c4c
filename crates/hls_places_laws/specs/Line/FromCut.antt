-- The live line of places that are counted from one of its cuts.
use Rattle.std.specs.Prelude.{◌≡◌, ℕ, zero, suc, ◌+◌, ◌≤◌, false, List, [], ◌∷◌, length, map, drop, Some, slice_get}
use Rattle.hls_check_tables.specs.declared.spot.Spot.{Spot}
use Rattle.hls_places_laws.specs.declared.place.Place.{Place}
use Rattle.hls_places_laws.specs.Sources.{Source, AreSources}
use Rattle.hls_places_laws.specs.Places.{places_of}
use Rattle.hls_places_laws.specs.AppendOnly.{ShareHistory}
use Rattle.hls_places_laws.specs.FromPlace.{IsPlaceFrom, AreInRow, place_since, sources_since}
use Rattle.hls_places_laws.specs.declared.line.goal.LineGoal.{LineGoal}
use Rattle.hls_places_laws.specs.declared.line.live_segment.LiveSegment.{LiveSegment}
use Rattle.hls_places_laws.specs.Line.Cuts.{line_of}
use Rattle.hls_places_laws.specs.Line.Lengths.{marks_in}
use Rattle.hls_places_laws.specs.Line.Live.{live_of, front_of}
use Rattle.hls_places_laws.specs.Line.Origins.{segments_over}

-- a segment between places that are counted from a cut
abbrev pub segment_since : List Spot → LiveSegment → LiveSegment
segment_since cut segment =
    record { from = place_since cut segment.from; to = place_since cut segment.to; mark = segment.mark }

-- the segment without a mark
abbrev pub without_discontinuity : LiveSegment → LiveSegment
without_discontinuity segment = record { from = segment.from; to = segment.to; mark = false }

-- the segments as the first ones of a line: no segment precedes the first one, so it has no mark
abbrev pub as_first : List LiveSegment → List LiveSegment
as_first [] = []
as_first (segment ∷ rest) = without_discontinuity segment ∷ rest

-- the segments from a cut, as in a line that begins there
abbrev pub segments_since : List Spot → List LiveSegment → List LiveSegment
segments_since cut segments = map (segment_since cut) (as_first segments)

-- the line without its first segments begins at one of the places; the line of the places from there has the segments from there, none of
-- whose ends precedes it
pub record ContinuesFrom (line_goal : LineGoal) (places : List Place) (removed : ℕ) (p : Place) : Type 0 where
  pub number : ℕ
  pub there : slice_get places number ≡ Some p
  pub segments : (line_of line_goal (map (place_since p.spots) (drop number places))).segments
      ≡ segments_since p.spots (drop removed (line_of line_goal places).segments)
  pub after_cut : (k : ℕ) (segment : LiveSegment) → slice_get (drop removed (line_of line_goal places).segments) k ≡ Some segment →
      IsPlaceFrom p segment.from × IsPlaceFrom p segment.to

-- if a line without its first segments begins at place p, the line of the places from p, counted from there, has the same segments, except that its
-- first one has no mark
abbrev pub LineFromCutAgrees : Type 0
LineFromCutAgrees = (line_goal : LineGoal) (places : List Place) (removed : ℕ) (p : Place) → AreInRow places →
    removed ≤ length (line_of line_goal places).segments → front_of (live_of line_goal places removed) ≡ Some p →
    ContinuesFrom line_goal places removed p

-- the renditions of another origin, which was begun at a cut of this one's line: in each rendition its units begin with the unit at the
-- cut, and agree with this one's as far as both have come
abbrev pub IsBegunAt : Place → List Source → List Source → Type 0
IsBegunAt cut a b = ShareHistory (sources_since cut.spots a) b

-- segment n after the cut, as the other origin has it
abbrev pub segment_counted_from : Place → ℕ → LiveSegment → LiveSegment
segment_counted_from cut zero segment = segment_since cut.spots (without_discontinuity segment)
segment_counted_from cut (suc n) segment = segment_since cut.spots segment

-- the place where the line without its first `removed` segments begins; units follow it
pub record IsCutOf (line_goal : LineGoal) (sources : List Source) (removed : ℕ) (p : Place) : Type 0 where
  pub within : removed ≤ length (segments_over line_goal sources)
  pub front : front_of (live_of line_goal (places_of sources) removed) ≡ Some p
  pub not_ended : p.closing ≡ false

-- the other origin's segment y is segment x, counted from the cut, and neither end of x precedes the cut
pub record IsSameFrom (cut : Place) (n : ℕ) (x y : LiveSegment) : Type 0 where
  pub same : y ≡ segment_counted_from cut n x
  pub after_cut : IsPlaceFrom cut x.from × IsPlaceFrom cut x.to

-- segments with the same number after the cut are the same
abbrev pub SegmentsFromCutAgree : Type 0
SegmentsFromCutAgree = (line_goal : LineGoal) (a b : List Source) (removed : ℕ) (cut : Place) → AreSources a → AreSources b → IsCutOf line_goal a removed cut →
    IsBegunAt cut a b → (n : ℕ) (x y : LiveSegment) → slice_get (segments_over line_goal a) (removed + n) ≡ Some x →
    slice_get (segments_over line_goal b) n ≡ Some y → IsSameFrom cut n x y

-- the marks agree as well, except for the first segment's
abbrev pub DiscontinuitiesFromCutAgree : Type 0
DiscontinuitiesFromCutAgree = (line_goal : LineGoal) (a b : List Source) (removed : ℕ) (cut : Place) → AreSources a → AreSources b → IsCutOf line_goal a removed cut →
    IsBegunAt cut a b → (n : ℕ) → removed + suc n ≤ length (segments_over line_goal a) → suc n ≤ length (segments_over line_goal b) →
    marks_in (removed + suc n) (segments_over line_goal a) ≡ marks_in (removed + 1) (segments_over line_goal a) + marks_in (suc n) (segments_over line_goal b)
