-- For the proofs of this crate; no public clause cites it. The meaning of a position in one rendition.
use Rattle.std.specs.Prelude.{◌≡◌, ℕ, ◌-◌, ◌<◌, ◌≤◌, ◌⊎◌, true, false, List, length}
use Rattle.hls_media_laws.specs.declared.facts.Facts.{Facts}
use Rattle.hls_places_laws.specs.declared.search_position.SearchPosition.{SearchPosition}
use Rattle.hls_places_laws.specs.Sources.{Source, fact_at, source_at, IsTimeline}
use Rattle.hls_places_laws.specs.Spots.{is_entry, first_entry, run_in}
use Rattle.hls_places_laws.specs.SearchPositions.{position_at}

-- a position at a fragment, or after all, that counts the gaps up to the fragment before it
pub record IsRunAt (fs : List Facts) (search_position : SearchPosition) : Type 0 where
  pub within : search_position.at ≤ length fs
  pub runs : search_position.runs ≡ run_in fs search_position.at

-- no fragment before the position is an entry
abbrev pub NoEntryBefore : ℕ → List Facts → SearchPosition → Type 0
NoEntryBefore low fs search_position = (j : ℕ) → j < search_position.at → is_entry low (fact_at fs j) ≡ false

-- a position at the first entry, or after all fragments if there is none
pub record IsAtEntry (low : ℕ) (fs : List Facts) (search_position : SearchPosition) : Type 0 where
  pub run : IsRunAt fs search_position
  pub found : search_position.at ≡ first_entry low fs

-- the position in each rendition is at a fragment, or after all, and counts the gaps
abbrev pub AreRunsAt : List Source → List SearchPosition → Type 0
AreRunsAt sources search_positions = (r : ℕ) → r < length sources → IsRunAt (source_at sources r).facts (position_at search_positions r)

-- in each rendition no fragment before its position is an entry for the time
abbrev pub AreEarly : ℕ → List Source → List SearchPosition → Type 0
AreEarly time sources search_positions = (r : ℕ) → r < length sources →
    NoEntryBefore (time - (source_at sources r).tolerance) (source_at sources r).facts (position_at search_positions r)

-- in each rendition the position is at the first entry for the time
abbrev pub AreAtEntries : ℕ → List Source → List SearchPosition → Type 0
AreAtEntries time sources search_positions = (r : ℕ) → r < length sources →
    IsAtEntry (time - (source_at sources r).tolerance) (source_at sources r).facts (position_at search_positions r)

-- a rendition that has a fragment at its position, or will never have one
abbrev pub IsSettledAt : Source → SearchPosition → Type 0
IsSettledAt s search_position = (s.finished ≡ true) ⊎ (search_position.at < length s.facts)

-- each rendition is settled at its position
abbrev pub AllSettled : List Source → List SearchPosition → Type 0
AllSettled sources search_positions = (r : ℕ) → r < length sources → IsSettledAt (source_at sources r) (position_at search_positions r)

-- rendition r isn't finished and its position is after all its fragments
pub record IsUnsettled (sources : List Source) (search_positions : List SearchPosition) (r : ℕ) : Type 0 where
  pub within : r < length sources
  pub not_ended : (source_at sources r).finished ≡ false
  pub over : (position_at search_positions r).at ≡ length (source_at sources r).facts

-- each rendition's units are in order
abbrev pub AreInOrder : List Source → Type 0
AreInOrder sources = (r : ℕ) → r < length sources → IsTimeline (source_at sources r).facts
