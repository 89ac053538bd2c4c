-- Bounds of the ends of a live line's segments.
use Rattle.std.specs.Prelude.{◌≡◌, ℕ, ◌≤◌, ◌<◌, List, length, Some, slice_get}
use Rattle.hls_check_tables.specs.Tables.{spot_in}
use Rattle.hls_places_laws.specs.declared.place.Place.{Place}
use Rattle.hls_places_laws.specs.Sources.{Source, source_at}
use Rattle.hls_places_laws.specs.Places.{places_of}
use Rattle.hls_places_laws.specs.declared.line.goal.LineGoal.{LineGoal}
use Rattle.hls_places_laws.specs.Line.Cuts.{line_of}
use Rattle.hls_places_laws.specs.Line.Live.{live_of, front_of}

-- a place is one of a list
pub record IsOneOf (places : List Place) (p : Place) : Type 0 where
  pub number : ℕ
  pub there : slice_get places number ≡ Some p

-- the place where the line begins is one of the places that were added
abbrev pub FrontIsAPlace : Type 0
FrontIsAPlace = (line_goal : LineGoal) (places : List Place) (removed : ℕ) (p : Place) →
    front_of (live_of line_goal places removed) ≡ Some p → IsOneOf places p

-- there are no more segments than places
abbrev pub SegmentsAreNoMoreThanPlaces : Type 0
SegmentsAreNoMoreThanPlaces = (line_goal : LineGoal) (places : List Place) → length (line_of line_goal places).segments ≤ length places

-- the front place's spots begin with units that exist, or that come next
abbrev pub FrontUnitsExist : Type 0
FrontUnitsExist = (line_goal : LineGoal) (sources : List Source) (removed : ℕ) (p : Place) →
    front_of (live_of line_goal (places_of sources) removed) ≡ Some p → (r : ℕ) → r < length sources →
    (spot_in p.spots r).fragment ≤ length (source_at sources r).facts
