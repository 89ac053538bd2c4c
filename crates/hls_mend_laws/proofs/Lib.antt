-- Lemmas on mending: the boxes of a written fragment and how they are read again, the samples of retimed and cut units and of fillers,
-- how a unit is treated, and jumps.
mod Words
mod Options
mod BoxLaws
mod TrunLaws
mod OneTraf
mod FragmentLaws
mod ReadLaws
mod FrontLaws
mod SampleLaws
mod SentLaws
mod RetimedLaws
mod FillerLaws
mod SourceLaws
mod ReadBackLaws
mod TreatmentLaws
mod JumpLaws
pub mod Callers
