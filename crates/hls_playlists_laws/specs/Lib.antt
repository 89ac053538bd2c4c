-- The statements on playlists: segments of jobs, live playlists and those valid as later ones, handovers and bases, path lists, and the units
-- that paths name.
pub mod JobPlaylists
pub mod Media
pub mod JobResource
pub mod Segments
pub mod SegmentLaws
pub mod Masters
pub mod Live
pub mod LaterList
pub mod LiveLaws
pub mod Origins
pub mod Handovers
pub mod JoinedLists
pub mod BasedLists
pub mod PathLists
pub mod NamedUnits
pub mod CutBases
pub mod PathLaws
