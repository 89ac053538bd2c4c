-- The lemmas of this crate, on what is read bit by bit, box by box or row by row: codecs, descriptors, sample durations, languages and texts.
pub mod BitLaws
pub mod BoxSearches
pub mod DescriptorLaws
pub mod DurationLaws
pub mod LanguageLaws
pub mod TextLaws
pub mod TrackLaws
