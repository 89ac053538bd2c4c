-- Lists of common places of renditions that grow, or of two channels with a shared history.
use Rattle.std.specs.Prelude.{◌≡◌, ℕ, ◌<◌, ◌⊎◌, List, ◌++◌, length}
use Rattle.hls_places_laws.specs.declared.place.Place.{Place}
use Rattle.hls_places_laws.specs.Sources.{Source, source_at, AreSources}
use Rattle.hls_places_laws.specs.Places.{places_of}
use Rattle.hls_places_laws.specs.Growth.{SourceGrows, Grows}

-- the earlier list is a prefix of the later one
pub record IsAppended (earlier later : List Place) : Type 0 where
  pub more : List Place
  pub is : later ≡ earlier ++ more

-- as renditions grow, their common places are only appended to
abbrev pub PlacesAreAppendOnly : Type 0
PlacesAreAppendOnly = (a b : List Source) → AreSources a → Grows a b → IsAppended (places_of a) (places_of b)

-- renditions of the same encoders: in each, one list of units is a prefix of the other
pub record ShareHistory (a b : List Source) : Type 0 where
  pub same : length b ≡ length a
  pub each : (r : ℕ) → r < length a → SourceGrows (source_at a r) (source_at b r) ⊎ SourceGrows (source_at b r) (source_at a r)

-- if two channels share their history, one channel's list of common places is a prefix of the other's
abbrev pub PlacesOfPrefixesAgree : Type 0
PlacesOfPrefixesAgree = (a b : List Source) → AreSources a → AreSources b → ShareHistory a b →
    (whole : List Place) × IsAppended (places_of a) whole × IsAppended (places_of b) whole
