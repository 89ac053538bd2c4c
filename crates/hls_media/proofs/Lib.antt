-- The lemmas of this crate, on what is read of init sections and units: walks over boxes, the columns of a run's rows, track fragments,
-- tracks and defaults of a `moov`, and the facts of a unit.
mod Overs
mod TrafLaws
mod RunLaws
mod ColumnLaws
mod Slices
mod Counts
mod BridgeLaws
mod ReadLaws
mod FactLaws
mod UnitLaws
mod FirstLaws
mod InitLaws
mod GatherLaws
mod MoovLaws
mod TracksLaws
mod MoovPlace
mod InitReads
