-- For the proofs of this crate; no public clause cites it.
-- What a path names, as bytes of a recording.
use Rattle.std.specs.Prelude.{◌≡◌, ℕ, ◌+◌, ◌-◌, ◌<◌, ◌≤◌, ◌^◌, ⊤, length, Option, Some, None}
use Rattle.hls_record.specs.RecordingData.{RecordingData, offset_at, total_of}
use Rattle.hls_playlists_laws.specs.JobResource.{bytes_between}
use Rattle.hls_playlists_laws.specs.NamedUnits.{KeptUnits, Named, NoUnits, TrimmedUnits, named_between, named_units, unit_after}
use Rattle.hls_api.specs.declared.player_responses.NamedSpan.{NamedSpan}
use Rattle.hls_api.specs.declared.player_responses.NamedSpan.TheVariants as spans
use Rattle.hls_api.specs.declared.player_responses.Span.{Span}

-- what the bytes from number `first` to number `last` of a recording name
abbrev pub units_between_bytes : ℕ → RecordingData → ℕ → ℕ → Named
units_between_bytes target rec first last =
    named_between target rec.facts rec.floor (unit_after 0 rec.facts (first - length rec.head)) (unit_after 0 rec.facts (last + 1 - length rec.head))

-- the span has the bytes of the named units, which are kept, within the recording
pub record AreUnitBytes (rec : RecordingData) (span : Span) (named : Named) : Type 0 where
  pub first : ℕ
  pub end : ℕ
  pub named_is : named ≡ KeptUnits first end
  pub start : span.start ≡ offset_at rec first
  pub len : span.len ≡ bytes_between rec.facts first end
  pub within : span.start + span.len ≤ total_of rec
  pub small : span.start + span.len < 2 ^ 64

-- the search's result is what the path names: nothing, trimmed units, or the bytes of kept units
abbrev pub IsNamedSpan : RecordingData → NamedSpan → Named → Type 0
IsNamedSpan rec spans.Nothing named = named ≡ NoUnits
IsNamedSpan rec spans.Trimmed named = named ≡ TrimmedUnits
IsNamedSpan rec (spans.Kept span) named = AreUnitBytes rec span named

-- what a path names in a rendition that may not have begun
abbrev pub IsNamedIn : Option RecordingData → NamedSpan → ℕ → ℕ → ℕ → ℕ → Type 0
IsNamedIn None spans.Nothing before target first last = ⊤
IsNamedIn None spans.Trimmed before target first last = ⊥
IsNamedIn None (spans.Kept span) before target first last = ⊥
IsNamedIn (Some rec) span before target first last = IsNamedSpan rec span (named_units before target (length rec.head) rec.facts rec.floor first last)
