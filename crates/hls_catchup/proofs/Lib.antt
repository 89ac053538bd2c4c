-- The lemmas of this crate, on requests for programmes of a channel: the table of a request, the kept places in it, the recordings that cover it,
-- and right answers that stay right.
mod Cited
mod Pieces
mod Walks
mod Right
mod States
mod Tables
mod SameProgrammes
mod CanonicalTimes
mod Bounded
mod Covered
mod AnswersStay
mod Slices
mod Spans
mod Plays
pub mod Callers
