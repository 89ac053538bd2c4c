-- What a connection has received, done and sent; its states, when it is consistent, and what it waits for or still needs.
pub mod Alone
pub mod RequestContexts
pub mod FailureCounts
pub mod RunsSession
pub mod Histories
pub mod States
pub mod Moments
pub mod ActNotes
pub mod IngestStates
pub mod MendingStates
pub mod Traces
pub mod Events
pub mod Connections
pub mod NeedsMore
pub mod WithinBody
pub mod Waits
pub mod Plans
