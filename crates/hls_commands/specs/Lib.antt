-- The contracts of the commands `cut`, `check`, `lint` and `explain`: what a run reads, writes and returns, the names of their faults,
-- and what their parts pass to each other.
pub mod MemoryCases
pub mod Prefix
pub mod Channel
pub mod CheckAnswer
pub mod CheckParts
pub mod CheckRun
pub mod CutFaultName
pub mod RecordStream
pub mod LintAnswer
pub mod LintParts
pub mod LintRun
pub mod ReadInput
pub mod RecordedState
pub mod CutRun
pub mod CutParts
pub mod OrRefused
pub mod Each
pub mod Plans
pub mod Listings
pub mod Places
pub mod ListingFaultName
pub mod ExplainRun
pub mod Explanations
