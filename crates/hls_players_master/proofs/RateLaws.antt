-- The segments that are measured.
use Rattle.std.proofs.Common.{◌-◌, ◌≤◌, List, length, arith}
use Rattle.std.proofs.lemmas.List.{length-drop}
use Rattle.hls_places_laws.specs.declared.line.live_segment.LiveSegment.{LiveSegment}
use Rattle.hls_players_master.specs.Rates.{newest}

-- at most 256 segments are measured
pub few-newest : (segments : List LiveSegment) → length (newest segments) ≤ 256
few-newest segments = omega (arith, length-drop (length segments - 256) segments)
