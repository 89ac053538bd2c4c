-- Which connections a handler keeps valid, what a step does to a connection and its socket, and when a connection waits, yields or times out.
pub mod Validity
pub mod FileLimits
pub mod Steps
pub mod Traffic
pub mod WaitQueue
pub mod Activity
pub mod Yielding
