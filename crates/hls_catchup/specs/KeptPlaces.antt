-- For the proofs of this crate; no public clause cites it. The kept places of a snapshot: those with no trimmed fragment.
use Rattle.std.specs.Prelude.{◌≡◌, ℕ, ◌+◌, ◌-◌, ◌≤◌, List, length, take, drop, Option, MatchOption}
use Rattle.hls_places_laws.specs.declared.place.Place.{Place}
use Rattle.hls_places_laws.specs.Firsts.{first_after, first_from}
use Rattle.hls_places_laws.specs.Programmes.{filter_kept}
use Rattle.hls_core_laws.specs.State.{State}
use Rattle.hls_core_laws.specs.Places.{places, floors}
use Rattle.hls_catchup.specs.declared.kept_places.KeptPlaces.TheInside.{Inside}
use Rattle.hls_blocks.specs.Numbered.{list_limit}
use Rattle.hls_check_tables.specs.Tables.{rendition_limit}

-- all places so far, and for each rendition the number of the first fragment that isn't trimmed
pub record PlacesAndFloors : Type 0 where
  pub items : List Place
  pub floors : List ℕ

-- the kept places that the program holds, as data of the definitions
abbrev pub model_of : Inside → PlacesAndFloors
model_of k = record { items = k.places.now.items; floors = take k.renditions k.floors }

-- all places are there from number 0 on, and their number and that of the renditions are within the limits
pub record IsSound (k : Inside) : Type 0 where
  pub all : k.places.now.first ≡ 0
  pub few : length k.places.now.items ≤ list_limit
  pub renditions : k.renditions ≤ rendition_limit

-- the places and the floors of a state
abbrev pub places_and_floors_of : State → PlacesAndFloors
places_and_floors_of s = record { items = places s; floors = floors s }

-- the places with no trimmed fragment, in order
abbrev pub all_kept_places : PlacesAndFloors → List Place
all_kept_places k = filter_kept k.floors k.items

-- the kept places among those from place number n on
abbrev pub kept_places_from : PlacesAndFloors → ℕ → List Place
kept_places_from k n = filter_kept k.floors (drop n k.items)

-- the kept places from place number n on are the last one at or before the time, and all after it
pub record IsLastBy (k : PlacesAndFloors) (time n : ℕ) : Type 0 where
  pub within : n ≤ length k.items
  pub some : 1 ≤ first_after time (all_kept_places k)
  pub rest : kept_places_from k n ≡ drop (first_after time (all_kept_places k) - 1) (all_kept_places k)

-- how many kept places there are from number n to the first one at or after the time, inclusive; none if all are earlier
abbrev pub IsCountTo : PlacesAndFloors → ℕ → ℕ → Option ℕ → Type 0
IsCountTo k n time count =
    MatchOption count (length (kept_places_from k n) ≤ first_from time (kept_places_from k n))
    (λ c. (c ≡ first_from time (kept_places_from k n) + 1) × (c ≤ length (kept_places_from k n)))
