-- The class of a place relative to the open one. For the proofs of this crate; no public clause cites it.
use Rattle.std.specs.Prelude.{if◌then◌else◌}
use Rattle.hls_places_laws.specs.declared.place.Place.{Place}
use Rattle.hls_places_laws.specs.declared.line.goal.LineGoal.{LineGoal}
use Rattle.hls_places_laws.specs.Line.Steps.{is_later_place, is_allowed, is_long_enough}
use Rattle.hls_live.specs.declared.place_fit.PlaceFit.{PlaceFit}
use Rattle.hls_live.specs.declared.place_fit.PlaceFit.TheVariants.{Skipped, TooFar, Reachable, LongEnough}

-- the class of place q: not later than the open place, out of a segment's reach, within its reach, or where it is long enough
abbrev pub fit_of : LineGoal → Place → Place → PlaceFit
fit_of line_goal o q =
    (if is_later_place o q then (if is_allowed line_goal o q then (if is_long_enough line_goal o q then LongEnough else Reachable) else TooFar) else Skipped)
