-- What is recorded of a unit continues its rendition.
use Rattle.std.specs.Prelude.{◌≡◌, ◌⊎◌, ℕ, ◌+◌, ◌-◌, ◌≤◌, None, List, [], ◌∷◌, length}
use Rattle.hls_media_laws.specs.FactLists.{last_end}
use Rattle.hls_media_laws.specs.InitData.{InitData}
use Rattle.hls_media_laws.specs.declared.facts.Facts.{Facts}
use Rattle.hls_record.specs.RecordingData.{RecordingData}
use Rattle.hls_mend_laws.specs.declared.settings.MendSettings.{MendSettings}
use Rattle.hls_mend.specs.MendedUnits.{as_sent, filler_len, filler_ticks, fillers_to, mended_unit, source_of, span_filler_by}
use Rattle.hls_mend.specs.declared.mended.ReadUnit.{ReadUnit}

-- the first unit starts at a tick, each other where the one before it ends, and the last ends at another tick
abbrev pub AreJoined : ℕ → List ReadUnit → ℕ → Type 0
AreJoined from [] to = from ≡ to
AreJoined from (u ∷ us) to = (u.facts.start ≡ from) × AreJoined (u.facts.start + u.facts.duration) us to

-- a unit that starts at the end of its rendition is recorded as it was sent, and nothing else is
abbrev pub ContiguousIsKept : Type 0
ContiguousIsKept =
    (settings : MendSettings) (bandwidth : ℕ) (init : InitData) (rec : RecordingData) (u : ReadUnit) → u.facts.start ≡ last_end rec.facts
    → mended_unit settings bandwidth init rec u ≡ as_sent u

-- from a tick on, the next one of fillers of this length can't be made in a gap that ends at another tick
abbrev pub CannotFill : ℕ → InitData → RecordingData → ℕ → ℕ → ℕ → Type 0
CannotFill bandwidth init rec len start end = span_filler_by init start (filler_ticks len (end - start)) (source_of bandwidth init rec) ≡ None

-- the fillers of a gap are at most 64, and joined from the end of the rendition up to the gap's end, or to a tick from which the next one
-- can't be made
pub record FillGap (bandwidth : ℕ) (init : InitData) (rec : RecordingData) (f : Facts) : Type 0 where
  pub to : ℕ
  pub joined : AreJoined (last_end rec.facts) (fillers_to bandwidth init rec f) to
  pub within : to ≤ f.start
  pub whole : (to ≡ f.start) ⊎ CannotFill bandwidth init rec (filler_len f.duration (f.start - last_end rec.facts)) to f.start
  pub few : length (fillers_to bandwidth init rec f) ≤ 64

-- fillers continue the rendition from its end up to the gap's end, unless one can't be made
abbrev pub FillersAreJoined : Type 0
FillersAreJoined = (bandwidth : ℕ) (init : InitData) (rec : RecordingData) (f : Facts) → last_end rec.facts ≤ f.start → FillGap bandwidth init rec f
