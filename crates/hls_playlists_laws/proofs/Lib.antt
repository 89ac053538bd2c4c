-- The lemmas of this crate, on live playlists and path lists: segments and dates, states that follow each other, handovers between origins, and
-- the units that paths name.
mod Cited
mod Ranges
mod JoinedMedia
mod Dates
mod Good
mod Examples
mod HandoverExamples
mod Reached
mod Told
mod Listed
mod Slid
mod Totals
mod Uris
mod Texts
mod Follows
mod Stays
mod Origins
mod Handovers
mod JoinedLists
mod PathLists
mod Paths
mod UnitSearch
mod NamedUnits
mod KeptPaths
mod BasedLists
mod HandedOver
mod RisingLines
mod Floors
mod PlaceSpots
mod ListedPaths
mod HandedPaths
mod CutBases
pub mod Callers
