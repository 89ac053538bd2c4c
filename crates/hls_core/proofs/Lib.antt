-- The lemmas on a channel's state: what each event leads to, replaying, comparing states, trimming and sliding, and the units of an upload.
mod Cited
mod Names
mod Runs
mod Taken
mod Goes
mod Compared
mod Moved
mod Upkeeps
mod KeptPlaces
mod DrainLaws
mod FeedLaws
mod Least
mod ShortestLaws
mod RunNames
pub mod Callers
