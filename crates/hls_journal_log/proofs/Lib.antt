-- The lemmas on a journal's log: checksums, headers of records, sync points, prefixes of a log, crashes, and what opening a log leaves.
pub mod Checksums
pub mod Headers
pub mod Prefixes
pub mod Steps
pub mod Places
pub mod Crashes
pub mod Opened
