-- What an init section and units say of a track's format, and how it is written: codecs, audio channels, picture sizes, languages,
-- and frame rates.
pub mod Kinds
pub mod Boxes
pub mod Codecs
pub mod Audio
pub mod Tracks
pub mod Texts
pub mod FrameRates
