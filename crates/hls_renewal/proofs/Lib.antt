-- The lemmas on renewals: a channel begins a new log at a cut of its live line. The cut is found; what the new log rebuilds of lanes, bytes,
-- sources, places, plans and playlists is what the old channel had from the cut on; each of its events is new.
pub mod Recorded
pub mod RebuiltLines
pub mod Bits
pub mod CutSearch
pub mod RenewalEvents
pub mod RenewalFits
pub mod CutCounts
pub mod LineCuts
pub mod AllNew
pub mod EventRuns
pub mod RenewedLanes
pub mod RenewedBytes
pub mod EndedLines
pub mod RenewedSources
pub mod RenewedRemovals
pub mod EqualLists
pub mod NeverBack
pub mod SmallLanes
pub mod EventCounts
pub mod NewEvents
pub mod LongLines
pub mod NewSlides
pub mod PlacesSince
pub mod PlansSince
pub mod JobListsSince
pub mod RenewedProgrammes
