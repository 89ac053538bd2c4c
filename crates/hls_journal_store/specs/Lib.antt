-- The definitions of a journal's files: calls on a file, what is known of a log, batches of entries, media to write, what a follower writes,
-- what a start knows and takes, logs in older formats, the numbers of segments, what counts for a new log, and when it is begun.
pub mod Calls
pub mod LogFiles
pub mod Batches
pub mod Writes
pub mod Followed
pub mod StartRecords
pub mod OlderFormats
pub mod Numbers
pub mod RenewalPolicy
pub mod LongLogs
pub mod Starts
