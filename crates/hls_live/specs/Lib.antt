-- Definitions of the live line as it is stored: its kept segments, their lengths and marks added up to each,
-- and how a place relates to the open one.
pub mod KeptSegments
pub mod PlaceFit
pub mod PrefixSums
pub mod Model
pub mod Advances
