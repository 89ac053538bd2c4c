-- Common places with their live line: at the opening, advanced, or with another line. For the proofs of this crate; no public clause
-- cites it.
use Rattle.std.specs.Prelude.{◌≡◌, ℕ, ◌+◌, ◌*◌, ◌<◌, List, [], ◌++◌, Some, length, slice_get}
use Rattle.hls_places_laws.specs.declared.place.Place.{Place}
use Rattle.hls_places_laws.specs.Sources.{Source}
use Rattle.hls_places_laws.specs.Places.{places_after}
use Rattle.hls_places_laws.specs.SearchPositions.{first_cursor, IsCursor, IsExhausted}
use Rattle.hls_places.specs.declared.cursor.PlaceAdvance.{PlaceAdvance}
use Rattle.hls_blocks.specs.Numbered.{list_limit}
use Rattle.hls_places_laws.specs.Line.Live.{Live, fresh, live_after_all}
use Rattle.hls_core_laws.specs.Config.{ConfigData}
use Rattle.hls_core_laws.specs.Line.{line_goal_of}
use Rattle.hls_core.specs.declared.line_state.LineState.{LineState}

-- no place yet: the cursor is before all units, and the line is empty
pub record IsFirstLineState (config : ConfigData) (p : LineState) : Type 0 where
  pub places : p.places ≡ record { first = 0; items = [] }
  pub cursor : p.cursor.value ≡ first_cursor (length config.renditions)
  pub line_is : p.line.value ≡ fresh (line_goal_of config)

-- the same places with this line
pub record HasLine (old : LineState) (line : Live) (p : LineState) : Type 0 where
  pub places : p.places ≡ old.places
  pub cursor : p.cursor.value ≡ old.cursor.value
  pub line_is : p.line.value ≡ line

-- the same places, cursor and line
abbrev pub IsSameLineState : LineState → LineState → Type 0
IsSameLineState old p = HasLine old old.line.value p

-- the places so far and then those that an advance passed; the line is the old one after these places
pub record IsAfterAdvance (old : LineState) (advance : PlaceAdvance) (p : LineState) : Type 0 where
  pub places : p.places ≡ record { first = old.places.first; items = old.places.items ++ advance.places.items }
  pub cursor : p.cursor.value ≡ advance.cursor
  pub line_is : p.line.value ≡ live_after_all old.line.value advance.places.items

-- the places so far and then all further ones; the cursor is after the last place, and the line is the old one after the further ones
pub record IsAdvancedLineState (sources : List Source) (old p : LineState) : Type 0 where
  pub places : p.places ≡ record { first = old.places.first; items = old.places.items ++ places_after sources old.cursor.value.done }
  pub cursor : IsCursor p.cursor.value sources
  pub exhausted : IsExhausted p.cursor.value sources
  pub line_is : p.line.value ≡ live_after_all old.line.value (places_after sources old.cursor.value.done)

-- a line with room for the segments that these places close, at most two each; each place has a spot
pub record HasRoomFor (line : Live) (places : List Place) : Type 0 where
  pub room : line.removed + length line.progress.line.segments + 2 * length places + 1 < list_limit
  pub spots : (k : ℕ) (p : Place) → slice_get places k ≡ Some p → 0 < length p.spots
