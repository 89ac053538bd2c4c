-- For the proofs of this crate; no public clause cites it.
-- Properties of a recording and its common places.
use Rattle.std.specs.Prelude.{◌≡◌, ◌≤◌, List, length, All}
use Rattle.hls_record.specs.RecordingData.{RecordingData}
use Rattle.hls_record.specs.IsRecorded.{IsRecorded}
use Rattle.hls_check_tables.specs.Tables.{spot_in}
use Rattle.hls_places_laws.specs.declared.place.Place.{Place}
use Rattle.hls_places_laws.specs.Order.{renditions_in, ArePlaces}

-- the places are in order and of one rendition, and none is past the end of the last unit
pub record ArePlacesOf (recorded : RecordingData) (places : List Place) : Type 0 where
  pub valid : IsRecorded recorded
  pub ordered : ArePlaces places
  pub single : renditions_in places ≡ 1
  pub ever : All (λ p. (spot_in p.spots 0).fragment ≤ length recorded.facts) places
