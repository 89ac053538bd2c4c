-- The lemmas on requests and acts: paths and their responses, cached queries, gaps and jumps of encoders, and acts that link states.
mod Recents
mod CachedQueries
mod Parts
mod Statuses
mod NamedSpans
mod PathAnswers
mod Acting
mod Examples
mod GapSteps
mod JumpSteps
mod Linking
mod Requests
pub mod Callers
mod Programmes
