-- The definitions of a player's master playlist: measured rates, the tracks of an init section, the summary of each rendition, and the lines with
-- audio groups and variant streams.
pub mod Rates
pub mod Tracks
pub mod Summaries
pub mod Text
pub mod Master
