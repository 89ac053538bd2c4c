-- The result of advancing a cursor.
use Rattle.std.specs.Prelude.{◌≡◌, ℕ, List}
use Rattle.hls_places_laws.specs.Sources.{Source}
use Rattle.hls_places_laws.specs.Places.{places_after}
use Rattle.hls_places_laws.specs.SearchPositions.{IsCursor, IsExhausted}
use Rattle.hls_places.specs.declared.cursor.PlaceAdvance.{PlaceAdvance}

-- all common places from fragment `done` of rendition 0, including the closing one, and a cursor after which none remains
pub record IsAdvance (sources : List Source) (done : ℕ) (advance : PlaceAdvance) : Type 0 where
  pub places : advance.places.items ≡ places_after sources done
  pub cursor : IsCursor advance.cursor sources
  pub exhausted : IsExhausted advance.cursor sources
