-- A state with one rendition.
use Rattle.std.proofs.Common.{◌≡◌, ℕ, ◌+◌, ◌≤◌, List, [], ◌∷◌, length, get_or, Option, Some, None, sym, ap, subst, ◌∙◌, arith}
use Rattle.hls_blocks.specs.Numbered.{Numbered, next_of}
use Rattle.hls_media_laws.specs.InitData.{InitData}
use Rattle.hls_media_laws.specs.declared.facts.Facts.{Facts}
use Rattle.hls_record.specs.RecordingData.{RecordingData}
use Rattle.hls_record.specs.IsRecorded.{IsRecorded}
use Rattle.hls_check_tables.specs.declared.spot.Spot.{Spot}
use Rattle.hls_check_tables.specs.Tables.{spot_in}
use Rattle.hls_places_laws.specs.declared.place.Place.{Place}
use Rattle.hls_places_laws.specs.Sources.{Source, source_at, AreSources}
use Rattle.hls_places_laws.specs.Order.{no_place, AreOrdered}
use Rattle.hls_places_laws.proofs.Callers.{places-ordered, ordered-places, table-place}
use Rattle.hls_core_laws.specs.Channel.{Lane}
use Rattle.hls_core_laws.specs.State.{State, HeldBytes, channel}
use Rattle.hls_core_laws.specs.Outcome.{held_bytes}
use Rattle.hls_core_laws.specs.Places.{sources, places}
use Rattle.hls_core_laws.proofs.Callers.{some_at, lanes_count, sources_count, source_of}
use Rattle.hls_core.specs.Getters.{recorded_from, recorded_at, recording_of}
use Rattle.hls_catchup.proofs.Callers.{Bounded, places-bounded}
use Rattle.hls_commands.specs.Places.{ArePlacesOf}

-- a recording has the facts of its lane
facts_from : (o : Option InitData) (l : Lane) (h : HeldBytes) (recorded : RecordingData) → recorded_from o l h ≡ Some recorded → recorded.facts ≡ l.facts
facts_from None l h recorded is = absurd (cc)
facts_from (Some init) l h recorded is =
    let made : RecordingData = record { init = init; head = h.head; facts = l.facts; floor = l.floor; units = h.units } in
    let same : made ≡ recorded = cc in
    sym (ap (λ (x : RecordingData). x.facts) same)

-- the facts of the first source of a state are those of the recording of rendition 0
source_facts : (s : State) (recorded : RecordingData) → 1 ≤ length s.config.renditions → recording_of s 0 ≡ Some recorded →
    (source_at (sources s) 0).facts ≡ recorded.facts
source_facts s recorded some is =
    let count : length (channel s).lanes ≡ length s.config.renditions = lanes_count s.config s.log in
    let lane = some_at (channel s).lanes 0 (omega arith) in
    let there : recorded_at (Some lane.0) (held_bytes s 0) ≡ Some recorded = ap (λ (o : Option Lane). recorded_at o (held_bytes s 0)) (sym lane.1) ∙ is in
    (source_of s 0 lane.0 lane.1).facts ∙ sym (facts_from lane.0.init lane.0 (held_bytes s 0) recorded there)

-- if spots are within their sources, the first spot's unit number is at most the number of the first source's units
first_bounded : (sources : List Source) (spots : List Spot) → 1 ≤ length sources → Bounded sources spots →
    (spot_in spots 0).fragment ≤ length (source_at sources 0).facts
first_bounded [] spots some bounded = absurd (omega arith)
first_bounded (s ∷ sources) [] some bounded = absurd bounded
first_bounded (s ∷ sources) (spot ∷ spots) some bounded = bounded.0

-- the places of a state with one rendition are places of its recording
pub places_single : (s : State) (recorded : RecordingData) → length s.config.renditions ≡ 1 → recording_of s 0 ≡ Some recorded → IsRecorded recorded →
    AreSources (sources s) → 1 ≤ length (places s) → ArePlacesOf recorded (places s)
places_single s recorded one is valid are some =
    let lanes : length (channel s).lanes ≡ length s.config.renditions = lanes_count s.config s.log in
    let count : length (sources s) ≡ length (channel s).lanes = sources_count s in
    let single : length (sources s) ≡ 1 = omega arith in
    let facts : (source_at (sources s) 0).facts ≡ recorded.facts = source_facts s recorded (omega arith) is in
    let ordered : AreOrdered (length (sources s)) (places s) = places-ordered (sources s) are in
    let first : length (get_or (places s) 0 no_place).spots ≡ length (sources s) = (ordered.each 0 no_place (omega arith)).place.count in
    record {
      valid = valid;
      ordered = ordered-places (length (sources s)) (places s) (omega arith) (omega arith) ordered;
      single = ap length (table-place (places s) 0) ∙ first ∙ single;
      ever = λ k d h.
          let bounded = places-bounded (sources s) k d h in
          subst (λ (fs : List Facts). (spot_in (get_or (places s) k d).spots 0).fragment ≤ length fs) facts
          (first_bounded (sources s) (get_or (places s) k d).spots (omega arith) bounded);
    }

-- the places that a snapshot returns are places of its recording
pub places_given : (s : State) (recorded : RecordingData) (given : Numbered Place) (next : ℕ) → given ≡ record { first = 0; items = places s } →
    next ≡ next_of given → 2 ≤ next → length s.config.renditions ≡ 1 → Some recorded ≡ recording_of s 0 → IsRecorded recorded →
    AreSources (sources s) → ArePlacesOf recorded given.items
places_given s recorded given next is count some one begun valid are =
    let items : given.items ≡ places s = ap (λ (n : Numbered Place). n.items) is in
    let counted : next ≡ 0 + length (places s) = count ∙ ap next_of is in
    subst (ArePlacesOf recorded) (sym items) (places_single s recorded one (sym begun) valid are (omega (arith, counted, some)))
