-- The jobs of a channel: a table of requests and their answers, and what is served of a job.
pub mod FaultName
pub mod Answers
pub mod Finished
pub mod States
pub mod Tables
pub mod Changes
pub mod Shared
pub mod Files
pub mod JobLine
