-- Renditions that are recorded from a place, as by an origin that was begun there: their spots and places, counted from that place.
use Rattle.std.specs.Prelude.{◌≡◌, ℕ, ◌-◌, ◌<◌, ◌≤◌, ◌==◌, false, if◌then◌else◌, List, [], ◌∷◌, map, drop, Some, slice_get}
use Rattle.std.specs.List.{AllPairs}
use Rattle.hls_check_tables.specs.declared.spot.Spot.{Spot}
use Rattle.hls_places_laws.specs.declared.place.Place.{Place}
use Rattle.hls_places_laws.specs.Sources.{Source, AreSources}
use Rattle.hls_places_laws.specs.Places.{places_of}

-- a spot is at or after the cut's: neither its unit number nor its gap counts are smaller; at the cut's own unit the count before it doesn't matter
pub record IsSpotFrom (cut spot : Spot) : Type 0 where
  pub fragment : cut.fragment ≤ spot.fragment
  pub outs : cut.run_out ≤ spot.run_out
  pub ins : cut.fragment < spot.fragment → cut.run_out ≤ spot.run_in

-- there is a spot for each spot of the cut, at or after it in its rendition
abbrev pub AreSpotsFrom : List Spot → List Spot → Type 0
AreSpotsFrom [] [] = Unit {0}
AreSpotsFrom [] (spot ∷ spots) = ⊥
AreSpotsFrom (c ∷ cut) [] = ⊥
AreSpotsFrom (c ∷ cut) (spot ∷ spots) = IsSpotFrom c spot × AreSpotsFrom cut spots

-- place p is at or after the cut: in no rendition does it have a smaller unit number or gap count
abbrev pub IsPlaceFrom : Place → Place → Type 0
IsPlaceFrom cut p = AreSpotsFrom cut.spots p.spots

-- of two places the later one has no smaller unit number or gap count
abbrev pub AreInRow : List Place → Type 0
AreInRow places = AllPairs IsPlaceFrom places

-- of two common places of a channel, the later one has no smaller unit number or gap count in any rendition
abbrev pub PlacesNeverGoBack : Type 0
PlacesNeverGoBack = (sources : List Source) → AreSources sources → AreInRow (places_of sources)

-- a spot, counted from an earlier one: the units and the gaps since, and no unit before the first one
abbrev pub spot_since : Spot → Spot → Spot
spot_since cut spot = record {
  fragment = spot.fragment - cut.fragment;
  prev_end = (if spot.fragment == cut.fragment then spot.start else spot.prev_end);
  start = spot.start;
  run_in = spot.run_in - cut.run_out;
  run_out = spot.run_out - cut.run_out;
}

-- the spots of a place, each counted from the cut's spot in the same rendition
abbrev pub spots_since : List Spot → List Spot → List Spot
spots_since [] spots = []
spots_since (c ∷ cut) [] = []
spots_since (c ∷ cut) (spot ∷ spots) = spot_since c spot ∷ spots_since cut spots

-- a place, counted from a cut: each spot from the cut in its rendition
abbrev pub place_since : List Spot → Place → Place
place_since cut p = record { spots = spots_since cut p.spots; closing = p.closing }

-- the units of a rendition from a spot
abbrev pub source_since : Spot → Source → Source
source_since cut s = record { facts = drop cut.fragment s.facts; tolerance = s.tolerance; finished = s.finished }

-- the renditions of a channel as they are recorded from a cut, each from its spot
abbrev pub sources_since : List Spot → List Source → List Source
sources_since [] sources = []
sources_since (c ∷ cut) [] = []
sources_since (c ∷ cut) (s ∷ sources) = source_since c s ∷ sources_since cut sources

-- renditions that are recorded from one of their common places have that place and all later ones
pub record KeepsPlaces (sources : List Source) (n : ℕ) (p : Place) : Type 0 where
  pub are : AreSources (sources_since p.spots sources)
  pub places : places_of (sources_since p.spots sources) ≡ map (place_since p.spots) (drop n (places_of sources))

-- renditions that are recorded from one of their common places, other than the closing one, have that place and all later ones
abbrev pub PlacesFromAPlaceAgree : Type 0
PlacesFromAPlaceAgree = (sources : List Source) → AreSources sources → (n : ℕ) (p : Place) →
    slice_get (places_of sources) n ≡ Some p → p.closing ≡ false → KeepsPlaces sources n p
