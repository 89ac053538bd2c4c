-- The table of all places of a channel of one rendition.
use Rattle.std.proofs.Common.{◌≡◌, ℕ, ◌≤◌, ◌-◌, List, length, sym, subst, arith, All, get_or}
use Rattle.std.proofs.lemmas.List.{length-map}
use Rattle.std.proofs.lemmas.List.Elements.{All-get_or}
use Rattle.hls_record.specs.RecordingData.{RecordingData}
use Rattle.hls_check_tables.specs.declared.cost_rule.CostRule.TheVariants.{Deviation}
use Rattle.hls_check_tables.specs.declared.goal.Goal.{Goal}
use Rattle.hls_check_tables.specs.declared.spot.Spot.{Spot}
use Rattle.hls_check_tables.specs.Tables.{IsGoal, IsTable, IsPlaceOf, spot_in, goal_of, table_of, place_limit}
use Rattle.hls_check_tables.specs.Orders.{IsOrderly}
use Rattle.hls_places_laws.specs.declared.place.Place.{Place}
use Rattle.hls_places_laws.specs.Order.{no_place, spots_of, renditions_in, ArePlaces}
use Rattle.hls_places_laws.proofs.Callers.{table-place}
use Rattle.hls_playlists_laws.specs.SegmentLaws.{end_fragment}
use Rattle.hls_commands.specs.Places.{ArePlacesOf}
use Rattle.hls_commands.proofs.Good.{NonePast}

-- a table has as many places as the channel
pub length_spots : (places : List Place) → length (spots_of places) ≡ length places
length_spots places = length-map places (λ (p : Place). p.spots)

-- each place has one spot
pub one_each : (places : List Place) → ArePlaces places → renditions_in places ≡ 1 → All (IsPlaceOf 1) (spots_of places)
one_each places are single = subst (λ (n : ℕ). All (IsPlaceOf n) (spots_of places)) single are.each

-- the places of one rendition, from two up to the limit, are a valid table for a valid goal
pub whole_is_table : (goal : Goal) (places : List Place) → ArePlaces places → renditions_in places ≡ 1 →
    IsGoal goal → 2 ≤ length places → length places ≤ place_limit →
    IsTable (table_of goal 1 (spots_of places))
whole_is_table goal places are single good some few =
    let count : length (spots_of places) ≡ length places = length_spots places in
    record {
      goal = good;
      renditions = (omega arith, omega arith);
      count = (omega arith, omega arith);
      places = one_each places are single;
    }

-- the places of one rendition are in order in their table
pub whole_is_orderly : (goal : Goal) (places : List Place) → ArePlaces places → renditions_in places ≡ 1 →
    IsOrderly (table_of goal 1 (spots_of places))
whole_is_orderly goal places are single =
    let orderly : IsOrderly (table_of (goal_of 0 0 Deviation) 1 (spots_of places)) =
    subst (λ (n : ℕ). IsOrderly (table_of (goal_of 0 0 Deviation) n (spots_of places))) single are.orderly in
    record {
      sorted = λ p h. let there = orderly.sorted p h in record { spots = there.spots; after = there.after };
      rising = orderly.rising;
    }

-- no place is past the end of the last unit
pub none_past : (recorded : RecordingData) (places : List Place) → ArePlacesOf recorded places → NonePast (length recorded.facts) (spots_of places)
none_past recorded places are i within =
    let count : length (spots_of places) ≡ length places = length_spots places in
    let there : (spot_in (get_or places i no_place).spots 0).fragment ≤ length recorded.facts =
    All-get_or (λ (p : Place). (spot_in p.spots 0).fragment ≤ length recorded.facts) places i no_place (omega arith) are.ever in
    subst (λ (p : List Spot). (spot_in p 0).fragment ≤ length recorded.facts) (sym (table-place places i)) there

-- the last place of a table of all places is not past the end of the last unit
pub end_within : (goal : Goal) (recorded : RecordingData) (places : List Place) → ArePlacesOf recorded places → 2 ≤ length places →
    end_fragment (table_of goal 1 (spots_of places)) 0 ≤ length recorded.facts
end_within goal recorded places are some =
    let count : length (spots_of places) ≡ length places = length_spots places in
    none_past recorded places are (length (spots_of places) - 1) (omega arith)
