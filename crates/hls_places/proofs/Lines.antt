-- A recording's units are in order.
use Rattle.std.proofs.Common.{◌≡◌, ℕ, ◌≤◌, List, length, map, get_or, Bool, arith, refl, ◌∙◌}
use Rattle.hls_media_laws.specs.declared.facts.Facts.{Facts}
use Rattle.hls_record.specs.RecordingData.{RecordingData}
use Rattle.hls_record.specs.IsRecorded.{IsRecorded}
use Rattle.hls_places.proofs.Cited.{units_are_in_time, length-sides, side-of, places-ordered, ordered-places}
use Rattle.hls_places_laws.specs.Sources.{Source, IsTimeline, sources_of}
use Rattle.hls_places_laws.specs.Places.{places_of}
use Rattle.hls_places_laws.specs.Order.{ArePlaces}
use Rattle.hls_places.specs.Searches.{AreInOrder}
use Rattle.hls_check_tables.specs.Tables.{rendition_limit}

-- a recording's units are in time order
pub timeline-of : (r : RecordingData) → IsRecorded r → IsTimeline r.facts
timeline-of = units_are_in_time

-- if the units of 1 to 16 renditions are in time order and rendition 0 has no tolerance, their common places are in order
pub places-in_order : {X : Type 0} (f : X → List Facts) (xs : List X) (tolerances : List ℕ) (finished : List Bool) →
    1 ≤ length xs → length xs ≤ rendition_limit → length tolerances ≡ length xs → length finished ≡ length xs → get_or tolerances 0 0 ≡ 0 →
    AreInOrder (sources_of (map f xs) tolerances finished) → ArePlaces (places_of (sources_of (map f xs) tolerances finished))
places-in_order f xs tolerances finished some few same also exact order =
    let sources : List Source = sources_of (map f xs) tolerances finished in
    let count = length-sides f xs tolerances finished same also sources refl in
    let first = side-of f xs tolerances finished same also sources refl 0 in
    ordered-places (length sources) (places_of sources) (omega (arith, count, some)) (omega (arith, count, few))
    (places-ordered sources (record {
      some = omega (arith, count, some);
      few = omega (arith, count, few);
      exact = first.tolerance_is ∙ exact;
      timelines = order;
    }))
