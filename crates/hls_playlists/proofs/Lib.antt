-- The lemmas of this crate: how playlists are made and written from a recording, with the ranges, dates and names of their segments, and
-- playlists that begin later.
pub mod Offsets
pub mod Places
mod ListLoop
mod Names
mod LiveLists
mod LiveTexts
mod Joined
mod ShortTexts
mod StartCounts
mod Starts
mod StartsOn
mod GoingOn
mod SinceLists
mod RecentLists
