-- The lemmas of this crate, on the mending of units: their samples and rows, silence and fillers, the boxes that are written,
-- and the laws of what is recorded for a unit.
mod RunSteps
mod FrameSteps
mod CutSteps
mod FrontSteps
mod RowSteps
mod Joined
mod BoxSteps
mod FillerSteps
mod FirstSteps
mod SyncSteps
mod ContiguousLaws
mod KeptLaws
mod ChannelLaws
