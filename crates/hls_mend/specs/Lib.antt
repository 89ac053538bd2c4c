-- What is recorded for a unit of a rendition that is mended: silence, spans, normal init sections, fillers and rewritten units, and the laws
-- of their continuity.
pub mod Views
pub mod Silence
pub mod Spans
pub mod FirstSamples
pub mod InitSections
pub mod MendedUnits
pub mod Contiguous
pub mod Channels
