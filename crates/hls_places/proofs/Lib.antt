-- The lemmas of this crate, on the search for places: the walk along the fragments of rendition 0, the spots of the other renditions,
-- and the range of places of a programme.
mod Cited
mod Lookings
pub mod Walks
mod CutOuts
mod Lines
pub mod Gathered
