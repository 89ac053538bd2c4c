-- The progress of a search for common places.
use Rattle.std.specs.Prelude.{◌≡◌, ℕ, ◌-◌, ◌<◌, ◌≤◌, ◌⊎◌, true, false, List, [], length, drop, replicate, slice_index_or}
use Rattle.std.specs.List.{filter_map}
use Rattle.hls_media_laws.specs.declared.facts.Facts.{Facts}
use Rattle.hls_places_laws.specs.declared.search_position.SearchPosition.{SearchPosition}
use Rattle.hls_places_laws.specs.Sources.{Source, fact_at, source_at, first_facts}
use Rattle.hls_places_laws.specs.Spots.{is_entry, first_entry, run_in}
use Rattle.hls_places_laws.specs.Places.{common_at}

-- the number of decided fragments of rendition 0, and a position in each rendition
pub record CursorData : Type 0 where
  pub done : ℕ
  pub search_positions : List SearchPosition

-- the position before the first fragment, which is also the default if there is no such position
abbrev pub no_position : SearchPosition
no_position = record { at = 0; runs = 0 }

-- the position of the search in rendition r
abbrev pub position_at : List SearchPosition → ℕ → SearchPosition
position_at search_positions r = slice_index_or search_positions r no_position

-- the position before a search, for a number of renditions
abbrev pub first_cursor : ℕ → CursorData
first_cursor renditions = record { done = 0; search_positions = replicate renditions no_position }

-- a time at or after the start of each fragment of rendition 0 up to and including number `done`
abbrev pub IsAsked : List Facts → ℕ → ℕ → Type 0
IsAsked fs done t = (i : ℕ) → i ≤ done → i < length fs → (fact_at fs i).start_us ≤ t

-- a position in a rendition: what precedes it is too early for every later time of the search
pub record IsSearchPosition (first : List Facts) (done : ℕ) (s : Source) (search_position : SearchPosition) : Type 0 where
  pub within : search_position.at ≤ length s.facts
  pub runs : search_position.runs ≡ run_in s.facts search_position.at
  pub passed : (t j : ℕ) → IsAsked first done t → j < search_position.at → is_entry (t - s.tolerance) (fact_at s.facts j) ≡ false

-- for the time t, rendition s has a fragment, or will never have one
abbrev pub IsSettled : Source → ℕ → Type 0
IsSettled s t = (s.finished ≡ true) ⊎ (first_entry (t - s.tolerance) s.facts < length s.facts)

-- whether fragment i of rendition 0 is a common place can no longer change
abbrev pub IsDecided : List Source → ℕ → Type 0
IsDecided sources i = (fact_at (first_facts sources) i).sync ≡ true
    → (r : ℕ) → r < length sources → IsSettled (source_at sources r) (fact_at (first_facts sources) i).start_us

-- a position fits these renditions
pub record IsCursor (p : CursorData) (sources : List Source) : Type 0 where
  pub count : length p.search_positions ≡ length sources
  pub within : p.done ≤ length (first_facts sources)
  pub decided : (i : ℕ) → i < p.done → IsDecided sources i
  pub search_positions : (r : ℕ) → r < length sources → IsSearchPosition (first_facts sources) p.done (source_at sources r) (position_at p.search_positions r)

-- no common place remains from the position on
abbrev pub IsExhausted : CursorData → List Source → Type 0
IsExhausted p sources = filter_map (common_at sources) (drop p.done (first_facts sources)) ≡ []
