-- The lemmas on records of a channel and its events: bodies that are made and read back, heads of units, floors and ids,
-- stored units, and why a record restores nothing.
pub mod Blocks
pub mod Recorded
pub mod Restored
pub mod HighestFloors
pub mod HeadSearch
pub mod Pushed
pub mod NoHead
pub mod Started
pub mod Pieces
pub mod Units
pub mod NotNew
pub mod ReadBack
pub mod Determined
pub mod HighestIds
pub mod Journals
