-- The definitions of this crate: what the writers of live playlists write, the URIs and names in them, and playlists that begin at a time or show
-- only the last segments.
pub mod MediaUris
pub mod LiveWriter
pub mod RenditionNames
pub mod ShortLists
pub mod StartTimes
pub mod StartLaws
pub mod RecentLists
